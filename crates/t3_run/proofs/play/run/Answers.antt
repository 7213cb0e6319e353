use Rattle.std.proofs.Common.{◌∙◌, ap}
use Rattle.std.proofs.lemmas.Result.{err_from_is_err_and}
use Rattle.t3_console.specs.Page.{PageValue}
use Rattle.t3_run.specs.Running.{outside}
use Rattle.t3_run.specs.Inner.Playing.{Play}
use Rattle.t3_run.proofs.PlayedRuns.{ended-of, run-err, unbegun-into, stop-into, closed-into, closed-run}
use Rattle.t3_run.proofs.play.run.Goals as goal

pub returns-in_err-machine-clause-run : goal.returns-in_err-machine-clause-run
returns-in_err-machine-clause-run g c =
    let before = outside (g.D.Depot.files c.args.depot.now) (g.C.Console.session c.args.console.now) in
    let play : Play = record { program = c.args.program; steps = c.args.steps; width = c.args.width; before = before } in
    let p = err_from_is_err_and c.from_residual.result c.from_residual.ensures.1 in
    run-err play before c.from_residual.result _ p.1 (unbegun-into play)

pub returns-in_err-line-clause-run : goal.returns-in_err-line-clause-run
returns-in_err-line-clause-run g c =
    let before = outside (g.D.Depot.files c.args.depot.now) (g.C.Console.session c.args.console.now) in
    let play : Play = record { program = c.args.program; steps = c.args.steps; width = c.args.width; before = before } in
    let files = g.D.Depot.files c.play.new.depot in
    let mid = g.C.Console.session c.play.new.console in
    let screen = c.play.new.screen in
    let machine = c.in_ok-machine-2.machine in
    let stop = c.in_ok-machine-2.stop in
    let ended =
    ended-of play c.in_ok-machine.machine.program c.new-screen.result.page.width screen (outside files mid) machine stop c.in_ok-machine.ensures.program
    (ap (λ (p : PageValue). p.width) c.new-screen.ensures.page) c.in_ok-machine-2.ensures.ended in
    let p = err_from_is_err_and c.from_residual-in_err-line.result c.from_residual-in_err-line.ensures.1 in
    run-err play (outside files mid) c.from_residual-in_err-line.result _ p.1 (stop-into play screen (outside files mid) machine stop ended)

pub returns-in-Ok-clause-run : goal.returns-in-Ok-clause-run
returns-in-Ok-clause-run g c =
    let before = outside (g.D.Depot.files c.args.depot.now) (g.C.Console.session c.args.console.now) in
    let play : Play = record { program = c.args.program; steps = c.args.steps; width = c.args.width; before = before } in
    let files = g.D.Depot.files c.play.new.depot in
    let mid = g.C.Console.session c.play.new.console in
    let screen = c.play.new.screen in
    let machine = c.in_ok-machine-2.machine in
    let stop = c.in_ok-machine-2.stop in
    let ended =
    ended-of play c.in_ok-machine.machine.program c.new-screen.result.page.width screen (outside files mid) machine stop c.in_ok-machine.ensures.program
    (ap (λ (p : PageValue). p.width) c.new-screen.ensures.page) c.in_ok-machine-2.ensures.ended in
    closed-run play screen files mid (g.C.Console.session c.close.new.console) machine stop c.as_str.result.now c.close.new.self.out.items
    c.run_end.result (c.as_str.ensures.value ∙ c.in_ok-line.ensures) c.in-Ok.ensures.out c.run_end.ensures c.in-Ok.ensures.put ended

pub returns-clause-run : goal.returns-clause-run
returns-clause-run g c =
    let before = outside (g.D.Depot.files c.args.depot.now) (g.C.Console.session c.args.console.now) in
    let play : Play = record { program = c.args.program; steps = c.args.steps; width = c.args.width; before = before } in
    let files = g.D.Depot.files c.play.new.depot in
    let mid = g.C.Console.session c.play.new.console in
    let screen = c.play.new.screen in
    let machine = c.in_ok-machine-2.machine in
    let stop = c.in_ok-machine-2.stop in
    let ended =
    ended-of play c.in_ok-machine.machine.program c.new-screen.result.page.width screen (outside files mid) machine stop c.in_ok-machine.ensures.program
    (ap (λ (p : PageValue). p.width) c.new-screen.ensures.page) c.in_ok-machine-2.ensures.ended in
    closed-into play screen files mid (g.C.Console.session c.close.new.console) machine stop c.as_str.result.now
    (c.as_str.ensures.value ∙ c.in_ok-line.ensures) c.in-Err.ensures.put ended
