use Rattle.std.proofs.Common.{◌++◌, ◌∙◌, append_assoc}
use Rattle.std.proofs.lemmas.Result.{err_from_is_err_and}
use Rattle.t3_console.specs.Page.{shown}
use Rattle.t3_console.specs.Rendering.{closed_rendering}
use Rattle.t3_console.specs.Output.{close_out}
use Rattle.t3_console.proofs.Output.{puts}
use Rattle.t3_run.proofs.Screens.{puts-none, puts-shown}
use Rattle.t3_run.proofs.screen.Screen.close.Goals as goal

pub returns-in_err-close-clause-put : goal.returns-in_err-close-clause-put
returns-in_err-close-clause-put g c taken has =
    let p = err_from_is_err_and c.from_residual.result c.from_residual.ensures.1 in
    puts-none (g.C.Console.session c.args.console.now) c.args.self.now (record { page = c.close.new.self; out = c.close.new.out })
    (close_out c.args.self.now.page.width taken ++ c.args.line.now) c.from_residual.result _ p.1

pub returns-in_err-extend_from_slice-clause-put : goal.returns-in_err-extend_from_slice-clause-put
returns-in_err-extend_from_slice-clause-put g c taken has =
    let p = err_from_is_err_and c.from_residual-in_err-extend_from_slice.result c.from_residual-in_err-extend_from_slice.ensures.1 in
    puts-none (g.C.Console.session c.args.console.now) c.args.self.now
    (record { page = c.close.new.self; out = c.extend_from_slice.new.self }) (close_out c.args.self.now.page.width taken ++ c.args.line.now)
    c.from_residual-in_err-extend_from_slice.result _ p.1

pub returns-clause-put : goal.returns-clause-put
returns-clause-put g c taken has =
    let width = c.args.self.now.page.width in
    let old = c.args.self.now.out.items in
    let line = c.args.line.now in
    let ended = c.in_ok-close.ensures.ended taken has in
    let text = puts old c.close.new.out.items (shown width taken) (closed_rendering width taken) ended.out in
    let all =
    c.in_ok-extend_from_slice.ensures.items ∙ (λ i. text i ++ c.as_bytes.ensures.value i) ∙ append_assoc old (close_out width taken) line in
    puts-shown (g.C.Console.session c.args.console.now) (g.C.Console.session c.flush.new.console) c.args.self.now c.flush.new.self
    (close_out width taken ++ line) c.extend_from_slice.new.self.items c.flush.result all c.flush.ensures.shown c.flush.ensures.out
