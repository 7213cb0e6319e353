use Rattle.std.proofs.Common.{◌≡◌, ◌+◌, ◌-◌, ◌≤◌, take, drop, length}
use Rattle.t3_ops.specs.References.{elements_of}
use Rattle.t3_kinds.proofs.lists.items_in.Given as goal

abbrev pub invariant-loop-items : goal.invariant-loop-items
invariant-loop-items l = record {
  items : l.found.items ≡ take (length l.found.items) (drop l.fn.part.skipped (elements_of l.pools.constants l.items));
  index : l.index ≡ l.fn.part.skipped + length l.found.items;
  within : length l.found.items ≤ l.count;
}

abbrev pub decreases-loop-items : goal.decreases-loop-items
decreases-loop-items l = l.count - length l.found.items
