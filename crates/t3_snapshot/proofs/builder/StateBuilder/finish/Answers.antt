use Rattle.t3_snapshot.proofs.OneMore.{by_true, by_false}
use Rattle.t3_snapshot.proofs.builder.StateBuilder.finish.Goals as goal

pub returns-then-not-complete : goal.returns-then-not-complete
returns-then-not-complete c = λ next objects has. by_false _ _ _ (c.in_ok-complete.ensures next objects has) c.if-not-complete.true

pub returns : goal.returns
returns c = λ next objects has. by_true _ _ _ (c.in_ok-complete.ensures next objects has) c.if-not-complete.false
