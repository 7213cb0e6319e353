use Rattle.std.proofs.Common.{◌≡◌, take}
use Rattle.std.specs.FinMap.{entries}
use Rattle.t3_undo.specs.Slots.{parts_of}
use Rattle.t3_tables.specs.Table.{ordered}
use Rattle.t3_tables.proofs.ordered.entries_by_tick.Given as goal

-- the entries among the slots so far
abbrev pub invariant-loop-index : goal.invariant-loop-index
invariant-loop-index l = l.by_tick.entries ≡ entries (ordered (parts_of (take l.index l.slots)))
