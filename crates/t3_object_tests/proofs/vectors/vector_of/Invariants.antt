use Rattle.std.proofs.Common.{◌≡◌, take}
use Rattle.t3_lists.specs.Vector.{parts_of, filled}
use Rattle.t3_object_tests.proofs.vectors.vector_of.Given as goal

-- the items so far
abbrev pub invariant-loop-item : goal.invariant-loop-item
invariant-loop-item l = parts_of l.vector ≡ filled (take l.item-index l.items)
