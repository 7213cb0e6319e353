use Rattle.std.proofs.Common.{◌≡◌, ◌++◌, map, length}
use Rattle.t3_tables.specs.Table.{pair_of}
use Rattle.t3_tables.proofs.ordered.pairs_of.Given as goal

-- the pairs so far, and those that are left
abbrev pub invariant-loop-key : goal.invariant-loop-key
invariant-loop-key l = l.pairs.items ++ map pair_of l.by_tick.entries ≡ map pair_of l.initial.by_tick.entries

abbrev pub decreases-loop-key : goal.decreases-loop-key
decreases-loop-key l = length l.by_tick.entries
