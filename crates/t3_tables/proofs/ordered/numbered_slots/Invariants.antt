use Rattle.std.proofs.Common.{◌≡◌, ◌++◌, ◌+◌, map, length}
use Rattle.t3_tables.specs.Table.{pair_of, numbered}
use Rattle.t3_tables.proofs.ordered.numbered_slots.Given as goal

-- the slots so far, and those of the entries that are left
abbrev pub invariant-loop-key : goal.invariant-loop-key
invariant-loop-key l =
    l.slots ++ numbered (length l.slots + 1) (map pair_of l.by_tick.entries) ≡ numbered 1 (map pair_of l.initial.by_tick.entries)

abbrev pub decreases-loop-key : goal.decreases-loop-key
decreases-loop-key l = length l.by_tick.entries
