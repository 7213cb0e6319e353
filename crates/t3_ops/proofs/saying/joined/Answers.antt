use Rattle.t3_ops.proofs.SaidTexts.{said-more}
use Rattle.t3_ops.proofs.saying.joined.Goals as goal

pub loop-value-preserved : goal.loop-value-preserved
loop-value-preserved c =
    said-more c.args.pools.now.constants c.args.store.now.store c.args.values.now c.loop-value.value-index _ _ _ c.in_ok-append_text_form.field-0
    c.loop-value-test.true c.loop-value.invariant c.in_ok-append_text_form.ensures c.if-not-branch.false
