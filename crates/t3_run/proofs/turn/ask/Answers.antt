use Rattle.std.proofs.Common.{ℕ, List, [], subst, ◌∙◌}
use Rattle.std.proofs.lemmas.Result.{err_from_is_err_and}
use Rattle.t3_console.specs.Output.{rest_out}
use Rattle.t3_run.specs.Cause.{IsNoDepotFault}
use Rattle.t3_run.specs.Running.{outside}
use Rattle.t3_run.specs.Inner.Playing.{Shifts}
use Rattle.t3_run.proofs.PlayedTurns.{rest-into, rest-asks}
use Rattle.t3_run.proofs.PlayedRuns.{turned-err, finished-turns}
use Rattle.t3_run.proofs.turn.ask.Goals as goal

pub returns-in_err-rest-clause-turned : goal.returns-in_err-rest-clause-turned
returns-in_err-rest-clause-turned g c play left text files page own steps played =
    let p = err_from_is_err_and c.from_residual.result c.from_residual.ensures.1 in
    let mid = g.C.Console.session c.args.console.now in
    let after = g.C.Console.session c.rest.new.console in
    let reader = c.args.lines.now in
    let put = c.in_err-rest.ensures.put text page.taken in
    turned-err IsNoDepotFault play left c.rest.new.self reader (outside files after) c.from_residual.result _ p.1
    (rest-into play left reader c.args.machine.state text c.args.screen.now put.0 files mid after page played put.1)

pub returns-clause-turned : goal.returns-clause-turned
returns-clause-turned g c play left text files page own steps played =
    let mid = g.C.Console.session c.args.console.now in
    let after = g.C.Console.session c.rest.new.console in
    let screen = c.args.screen.now in
    let reader = c.args.lines.now in
    let new = c.rest.new.self in
    let none = c.in_ok-rest.ensures.out in
    let anew = c.in_ok-rest.ensures.page text page.taken in
    let shifts =
    subst (λ (pending : List ℕ). Shifts mid after screen.out.items (rest_out screen.page.width text) pending) none
    (c.in_ok-rest.ensures.put text page.taken) in
    let asks = rest-asks play left reader c.args.machine.state text screen [] files mid after page played shifts in
    finished-turns IsNoDepotFault play left [] new c.give_line.new.lines (outside files (g.C.Console.session c.give_line.new.console)) c.give_line.result
    (record { taken = anew.0; width = anew.1 ∙ page.width }) none (c.give_line.ensures.finished play left files own steps asks)
