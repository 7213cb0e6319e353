use Rattle.std.proofs.Common.{◌≡◌, ◌-◌, take, drop}
use Rattle.t3_ops.specs.Elements.{vector_items}
use Rattle.t3_kinds.specs.VectorMethods.{elements_set}
use Rattle.t3_kinds.specs.Inner.Deeds.{changes_of}
use Rattle.t3_kinds.proofs.vectors.moved_elements.Given as goal

abbrev pub invariant-loop-number : goal.invariant-loop-number
invariant-loop-number l =
    changes_of l.changes.items
    ≡ elements_set l.vector.number l.first (take (l.number - l.first) (drop l.first (vector_items l.vector.object)))
