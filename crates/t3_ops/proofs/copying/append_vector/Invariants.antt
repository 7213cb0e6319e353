use Rattle.std.proofs.Common.{◌≡◌, ◌++◌, take}
use Rattle.t3_ops.specs.Elements.{vector_items}
use Rattle.t3_ops.proofs.copying.append_vector.Given as goal

abbrev pub invariant-loop-index : goal.invariant-loop-index
invariant-loop-index l = l.items.items ≡ l.initial.items.items ++ take l.index (vector_items l.vector)
