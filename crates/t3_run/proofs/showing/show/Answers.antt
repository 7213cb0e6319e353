use Rattle.std.proofs.Common.{◌-◌, length, drop, ◌∙◌, ap, arith, Err}
use Rattle.std.proofs.lemmas.List.{length-take, length-drop}
use Rattle.std.proofs.lemmas.Result.{err_from_is_err_and}
use Rattle.t3_run.proofs.Shown.{shows_piece, shows_prefix, shows_all}
use Rattle.t3_run.proofs.showing.show.Goals as goal

pub returns-in_err-at-clause-shown : goal.returns-in_err-at-clause-shown
returns-in_err-at-clause-shown g c =
    let p = err_from_is_err_and c.from_residual.result c.from_residual.ensures.1 in
    shows_prefix (g.C.Console.session c.args.console.now) (g.C.Console.session c.loop-at.console) (g.C.Console.session c.write.new.self) c.args.text.now _ c.loop-at.at c.in_err-at.field-0.0 _ c.from_residual.result (p.1 ∙ ap (λ e. Err e) p.2)
    c.loop-at.invariant.shown c.in_err-at.ensures.shown

pub returns-clause-shown : goal.returns-clause-shown
returns-clause-shown g c = shows_all _ _ c.args.text.now c.loop-at.at c.loop-at.invariant.shown (omega arith)

pub loop-at-preserved : goal.loop-at-preserved
loop-at-preserved g c =
    let text = c.args.text.now in
    let count = c.in_ok-at.field-0 in
    record {
      within =
          omega (arith, c.in_ok-at.ensures.count.within, length-take (length text - c.loop-at.at) (drop c.loop-at.at text), length-drop c.loop-at.at text);
      shown =
          shows_piece (g.C.Console.session c.args.console.now) (g.C.Console.session c.loop-at.console) (g.C.Console.session c.write.new.self) text c.loop-at.at count c.loop-at.invariant.shown c.in_ok-at.ensures.shown;
      faults = c.in_ok-at.ensures.cause ∙ c.loop-at.invariant.faults;
    }
