use Rattle.t3_snapshot.proofs.Rising.{not_rising, still_rising, all_rise}
use Rattle.t3_snapshot.proofs.object.are_rising.Goals as goal

pub returns-then-prop-last : goal.returns-then-prop-last
returns-then-prop-last c = not_rising c.loop-prop.prop-index _ _ _ _ c.loop-prop-test.true c.loop-prop.invariant c.if-prop-last.true

pub loop-prop-preserved : goal.loop-prop-preserved
loop-prop-preserved c = still_rising c.loop-prop.prop-index _ _ _ _ c.loop-prop-test.true c.loop-prop.invariant c.if-prop-last.false

pub returns : goal.returns
returns c = all_rise c.loop-prop.prop-index _ _ _ c.loop-prop-test.false c.loop-prop.invariant
