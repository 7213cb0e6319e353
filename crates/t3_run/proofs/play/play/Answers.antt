use Rattle.std.proofs.Common.{◌-◌, ◌∙◌, [], refl, arith}
use Rattle.std.proofs.lemmas.Result.{err_from_is_err_and}
use Rattle.t3_console.proofs.Shown.{taken_nothing}
use Rattle.t3_interp.proofs.Runs.{gone_some}
use Rattle.t3_run.specs.Running.{outside}
use Rattle.t3_run.specs.Inner.Playing.{Play}
use Rattle.t3_run.proofs.PlayedRests.{steps-into}
use Rattle.t3_run.proofs.PlayedRuns.{begun-at, at-gone, as-goes, as-stops, at-last, into-told, ended-err}
use Rattle.t3_run.proofs.play.play.Goals as goal

pub loop-left-init : goal.loop-left-init
loop-left-init g c =
    let before = outside (g.D.Depot.files c.args.depot.now) (g.C.Console.session c.args.console.now) in
    let screen = c.args.screen.now in
    let play : Play = record { program = c.args.machine.program; steps = c.args.steps; width = screen.page.width; before = before } in
    record {
      turned = (
        [],
        record { taken = taken_nothing screen.page screen.page.width c.requires.page; width = refl },
        begun-at play c.args.machine screen c.new-lines.result refl c.requires.begun c.requires.out c.new-lines.ensures,
      );
      depot = refl;
      console = refl;
    }

pub go-requires-clause-wants : goal.go-requires-clause-wants
go-requires-clause-wants g c = c.loop-left.invariant.turned.2.wants

pub go-requires-clause-few : goal.go-requires-clause-few
go-requires-clause-few g c =
    let made = c.loop-left.invariant.turned.2.made in
    let fits = c.ranges.steps in
    omega (arith, made, fits)

pub returns-in_err-next-clause-ended : goal.returns-in_err-next-clause-ended
returns-in_err-next-clause-ended g c =
    let before = outside (g.D.Depot.files c.args.depot.now) (g.C.Console.session c.args.console.now) in
    let now = outside (g.D.Depot.files c.loop-left.depot) (g.C.Console.session c.loop-left.console) in
    let play : Play = record { program = c.args.machine.program; steps = c.args.steps; width = c.args.screen.now.page.width; before = before } in
    let at = c.loop-left.invariant.turned in
    let p = err_from_is_err_and c.from_residual.result c.from_residual.ensures.1 in
    ended-err play c.loop-left.screen now c.from_residual.result _ p.1
    (steps-into play c.loop-left.left _ _ c.loop-left.screen.out.items c.loop-left.lines now at.2.played)

pub make_turn-requires-clause-wants : goal.make_turn-requires-clause-wants
make_turn-requires-clause-wants g c =
    let before = outside (g.D.Depot.files c.args.depot.now) (g.C.Console.session c.args.console.now) in
    let now = outside (g.D.Depot.files c.loop-left.depot) (g.C.Console.session c.loop-left.console) in
    let play : Play = record { program = c.args.machine.program; steps = c.args.steps; width = c.args.screen.now.page.width; before = before } in
    let at = c.loop-left.invariant.turned in
    let bound = c.in_ok-next.ensures.bound in
    let gone =
    at-gone play c.loop-left.left c.in_ok-next.made (c.loop-left.left - c.in_ok-next.made) c.loop-left.machine c.in_ok-next.next c.in_ok-next.event
    at.0 c.loop-left.screen.out.items c.loop-left.lines now (omega (arith, bound)) c.in_ok-next.ensures.program c.in_ok-next.ensures.goes at.2 in
    gone.wants

pub make_turn-requires-clause-few : goal.make_turn-requires-clause-few
make_turn-requires-clause-few g c =
    let before = outside (g.D.Depot.files c.args.depot.now) (g.C.Console.session c.args.console.now) in
    let now = outside (g.D.Depot.files c.loop-left.depot) (g.C.Console.session c.loop-left.console) in
    let play : Play = record { program = c.args.machine.program; steps = c.args.steps; width = c.args.screen.now.page.width; before = before } in
    let at = c.loop-left.invariant.turned in
    let bound = c.in_ok-next.ensures.bound in
    let gone =
    at-gone play c.loop-left.left c.in_ok-next.made (c.loop-left.left - c.in_ok-next.made) c.loop-left.machine c.in_ok-next.next c.in_ok-next.event
    at.0 c.loop-left.screen.out.items c.loop-left.lines now (omega (arith, bound)) c.in_ok-next.ensures.program c.in_ok-next.ensures.goes at.2 in
    let made = gone.made in
    let fits = c.ranges.steps in
    omega (arith, made, fits)

pub returns-in_err-next-2-clause-ended : goal.returns-in_err-next-2-clause-ended
returns-in_err-next-2-clause-ended g c =
    let before = outside (g.D.Depot.files c.args.depot.now) (g.C.Console.session c.args.console.now) in
    let now = outside (g.D.Depot.files c.loop-left.depot) (g.C.Console.session c.loop-left.console) in
    let play : Play = record { program = c.args.machine.program; steps = c.args.steps; width = c.args.screen.now.page.width; before = before } in
    let at = c.loop-left.invariant.turned in
    let bound = c.in_ok-next.ensures.bound in
    let gone =
    at-gone play c.loop-left.left c.in_ok-next.made (c.loop-left.left - c.in_ok-next.made) c.loop-left.machine c.in_ok-next.next c.in_ok-next.event
    at.0 c.loop-left.screen.out.items c.loop-left.lines now (omega (arith, bound)) c.in_ok-next.ensures.program c.in_ok-next.ensures.goes at.2 in
    let p = err_from_is_err_and c.from_residual-in_err-next-2.result c.from_residual-in_err-next-2.ensures.1 in
    let after = outside (g.D.Depot.files c.make_turn.new.depot) (g.C.Console.session c.make_turn.new.console) in
    ended-err play c.make_turn.new.screen after c.from_residual-in_err-next-2.result _ p.1
    (into-told play after (λ is. p.2 ∙ is)
    (c.in_err-next-2.ensures.turned play (c.loop-left.left - c.in_ok-next.made) at.0 at.1 gone.own gone.made gone.played))

pub loop-left-smaller : goal.loop-left-smaller
loop-left-smaller g c =
    let left = c.loop-left.left in
    let made = c.in_ok-next.made in
    let next = c.in_ok-next.ensures in
    let bound = next.bound in
    let test = c.loop-left-test.true in
    let some =
    gone_some c.loop-left.machine.program made left c.loop-left.machine.state c.in_ok-next.next.state c.in_ok-next.event (omega (arith, test))
    next.all next.goes in
    omega (arith, some, bound)

pub loop-left-preserved : goal.loop-left-preserved
loop-left-preserved g c =
    let before = outside (g.D.Depot.files c.args.depot.now) (g.C.Console.session c.args.console.now) in
    let now = outside (g.D.Depot.files c.loop-left.depot) (g.C.Console.session c.loop-left.console) in
    let play : Play = record { program = c.args.machine.program; steps = c.args.steps; width = c.args.screen.now.page.width; before = before } in
    let at = c.loop-left.invariant.turned in
    let bound = c.in_ok-next.ensures.bound in
    let gone =
    at-gone play c.loop-left.left c.in_ok-next.made (c.loop-left.left - c.in_ok-next.made) c.loop-left.machine c.in_ok-next.next c.in_ok-next.event
    at.0 c.loop-left.screen.out.items c.loop-left.lines now (omega (arith, bound)) c.in_ok-next.ensures.program c.in_ok-next.ensures.goes at.2 in
    record {
      turned =
          as-goes play (c.loop-left.left - c.in_ok-next.made) c.make_turn.new.screen c.make_turn.new.lines
          (outside (g.D.Depot.files c.make_turn.new.depot) (g.C.Console.session c.make_turn.new.console)) c.in_ok-next-2.field-0 c.in-Goes.next c.in-Goes.is
          (c.in_ok-next-2.ensures.turned play (c.loop-left.left - c.in_ok-next.made) at.0 at.1 gone.own gone.made gone.played);
      depot = c.in_ok-next-2.ensures.depot ∙ c.loop-left.invariant.depot;
      console = c.in_ok-next-2.ensures.console ∙ c.loop-left.invariant.console;
    }

pub returns-in-Stops-clause-ended : goal.returns-in-Stops-clause-ended
returns-in-Stops-clause-ended g c =
    let before = outside (g.D.Depot.files c.args.depot.now) (g.C.Console.session c.args.console.now) in
    let now = outside (g.D.Depot.files c.loop-left.depot) (g.C.Console.session c.loop-left.console) in
    let play : Play = record { program = c.args.machine.program; steps = c.args.steps; width = c.args.screen.now.page.width; before = before } in
    let at = c.loop-left.invariant.turned in
    let bound = c.in_ok-next.ensures.bound in
    let gone =
    at-gone play c.loop-left.left c.in_ok-next.made (c.loop-left.left - c.in_ok-next.made) c.loop-left.machine c.in_ok-next.next c.in_ok-next.event
    at.0 c.loop-left.screen.out.items c.loop-left.lines now (omega (arith, bound)) c.in_ok-next.ensures.program c.in_ok-next.ensures.goes at.2 in
    as-stops play (c.loop-left.left - c.in_ok-next.made) c.make_turn.new.screen c.make_turn.new.lines
    (outside (g.D.Depot.files c.make_turn.new.depot) (g.C.Console.session c.make_turn.new.console)) c.in_ok-next-2.field-0 c.in-Stops.last c.in-Stops.stop c.in-Stops.is
    (c.in_ok-next-2.ensures.turned play (c.loop-left.left - c.in_ok-next.made) at.0 at.1 gone.own gone.made gone.played)

pub returns-clause-ended : goal.returns-clause-ended
returns-clause-ended g c =
    let before = outside (g.D.Depot.files c.args.depot.now) (g.C.Console.session c.args.console.now) in
    let play : Play = record { program = c.args.machine.program; steps = c.args.steps; width = c.args.screen.now.page.width; before = before } in
    let at = c.loop-left.invariant.turned in
    let test = c.loop-left-test.false in
    at-last play c.loop-left.left c.loop-left.machine c.loop-left.screen at.0 c.loop-left.lines (outside (g.D.Depot.files c.loop-left.depot) (g.C.Console.session c.loop-left.console))
    (omega (arith, test)) at.1 at.2
