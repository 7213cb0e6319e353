use Rattle.std.proofs.Common.{◌≡◌, ℕ, ◌+◌, ◌<◌, is_some, true}
use Rattle.std.specs.FinMap.{get}
use Rattle.t3_undo.specs.declared.cell.Cell.TheVariants as cells
use Rattle.t3_lists.specs.Vector.{parts_of}
use Rattle.t3_object_tests.proofs.tried.is_whole.Given as goal

-- the elements so far are present
abbrev pub invariant-loop-index : goal.invariant-loop-index
invariant-loop-index l =
    (index : ℕ) → index < l.index → is_some (get (parts_of l.vector) (cells.Elem (index + 1))) ≡ true
