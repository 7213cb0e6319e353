use Rattle.std.proofs.Common.{◌∙◌, sym, arith, true≢false}
use Rattle.t3_tadsobj.proofs.CycleRests.{none-more, none-at-all, first-found}
use Rattle.t3_tadsobj.proofs.cycles.first_cyclic.Goals as goal

pub returns-then-branch : goal.returns-then-branch
returns-then-branch g c =
    first-found (g.S.Supers.supers_at c.args.view.now) c.args.numbers.now c.loop-number.number-index
    (omega (arith, c.loop-number-test.true)) c.loop-number.invariant.1 (c.in_ok-is_cyclic.ensures.tells.0 c.if-branch.true)

pub loop-number-preserved : goal.loop-number-preserved
loop-number-preserved g c = (
  c.in_ok-is_cyclic.ensures.rests,
  none-more (g.S.Supers.supers_at c.args.view.now) c.args.numbers.now c.loop-number.number-index _ (omega (arith, c.loop-number-test.true))
      (omega arith) c.loop-number.invariant.1
      (λ walk. true≢false (sym (c.in_ok-is_cyclic.ensures.tells.1 walk) ∙ c.if-branch.false)),
)

pub returns : goal.returns
returns g c =
    none-at-all (g.S.Supers.supers_at c.args.view.now) c.args.numbers.now c.loop-number.number-index
    (omega (arith, c.loop-number-test.false)) c.loop-number.invariant.1
