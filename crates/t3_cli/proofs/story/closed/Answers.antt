use Rattle.std.proofs.Common.{ℕ, Option, sym, subst}
use Rattle.std.specs.Prelude.{string_bytes}
use Rattle.t3_cli.specs.declared.status.Status.{Status}
use Rattle.t3_cli.specs.Lines.{drill_line}
use Rattle.t3_cli.specs.Inner.Showing.{ShowsOrWants}
use Rattle.t3_cli.specs.Inner.Following.{IsClosed}
use Rattle.t3_cli.proofs.Followed.{shows_line}
use Rattle.t3_cli.proofs.story.closed.Goals as goal

pub returns-in-Some-clause-closed : goal.returns-in-Some-clause-closed
returns-in-Some-clause-closed g c =
    let before = g.C.Console.session c.args.console.now in
    let after = g.C.Console.session c.answer.new.console in
    let line = drill_line c.in-Some.actions c.args.end in
    let Closed : Option ℕ → Type 0 = λ actions. IsClosed before after actions c.args.end c.answer.result in
    let Shown : Status → Type 0 = λ status. ShowsOrWants before after line status c.answer.result in
    subst Closed (sym c.in-Some.is)
    (subst Shown c.status_of-status.ensures.status
    (shows_line string_bytes before after c.drill.result line c.status_of-status.result c.answer.result c.drill.ensures c.answer.ensures.shown))
