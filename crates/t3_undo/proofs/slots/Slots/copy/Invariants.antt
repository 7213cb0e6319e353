use Rattle.std.proofs.Common.{◌≡◌, take, filter}
use Rattle.t3_undo.specs.Slots.{is_present}
use Rattle.t3_undo.proofs.SlotCopies.{afresh}
use Rattle.t3_undo.proofs.slots.Slots.copy.Given as goal

abbrev pub invariant-loop-index : goal.invariant-loop-index
invariant-loop-index l = l.copy ≡ afresh (filter is_present (take l.index l.self-inside.cells.entries))
