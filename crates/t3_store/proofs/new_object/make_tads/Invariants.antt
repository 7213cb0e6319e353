use Rattle.t3_store.proofs.MapValues.{IsMade}
use Rattle.t3_store.proofs.new_object.make_tads.Given as goal

abbrev pub invariant-loop-left : goal.invariant-loop-left
invariant-loop-left l = IsMade l.object l.fn.supers l.fn.class l.items l.left

abbrev pub decreases-loop-left : goal.decreases-loop-left
decreases-loop-left l = l.left
