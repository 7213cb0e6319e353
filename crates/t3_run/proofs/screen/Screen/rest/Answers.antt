use Rattle.std.proofs.lemmas.Result.{err_from_is_err_and}
use Rattle.t3_console.specs.Page.{shown}
use Rattle.t3_console.specs.Rendering.{rendering}
use Rattle.t3_console.specs.Output.{rest_out}
use Rattle.t3_console.proofs.Output.{puts}
use Rattle.t3_run.proofs.Screens.{puts-none, puts-shown}
use Rattle.t3_run.proofs.screen.Screen.rest.Goals as goal

pub returns-in_err-rest-clause-put : goal.returns-in_err-rest-clause-put
returns-in_err-rest-clause-put g c taken has =
    let p = err_from_is_err_and c.from_residual.result c.from_residual.ensures.1 in
    puts-none (g.C.Console.session c.args.console.now) c.args.self.now (record { page = c.rest.new.self; out = c.rest.new.out })
    (rest_out c.args.self.now.page.width taken) c.from_residual.result _ p.1

pub returns-clause-put : goal.returns-clause-put
returns-clause-put g c taken has =
    let width = c.args.self.now.page.width in
    let ended = c.in_ok-rest.ensures.ended taken has in
    let all = puts c.args.self.now.out.items c.rest.new.out.items (shown width taken) (rendering width taken) ended.out in
    puts-shown (g.C.Console.session c.args.console.now) (g.C.Console.session c.flush.new.console) c.args.self.now c.flush.new.self
    (rest_out width taken) c.rest.new.out.items c.flush.result all c.flush.ensures.shown c.flush.ensures.out
