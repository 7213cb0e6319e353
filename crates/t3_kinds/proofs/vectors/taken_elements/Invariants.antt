use Rattle.std.proofs.Common.{◌≡◌}
use Rattle.t3_kinds.specs.VectorMethods.{elements_taken}
use Rattle.t3_kinds.specs.Inner.Deeds.{changes_of}
use Rattle.t3_kinds.proofs.vectors.taken_elements.Given as goal

abbrev pub invariant-loop-index : goal.invariant-loop-index
invariant-loop-index l = changes_of l.changes.items ≡ elements_taken l.object l.last l.index
