use Rattle.std.proofs.Common.{◌≡◌, ◌≤◌, ◌-◌, ◌++◌, take, length}
use Rattle.t3_ops.specs.References.{elements_of}
use Rattle.t3_ops.proofs.copying.append_elements.Given as goal

abbrev pub invariant-loop-item : goal.invariant-loop-item
invariant-loop-item l = record {
  appended : l.items.items ≡ l.initial.items.items ++ take l.next (elements_of l.pools.constants l.list);
  within : l.next ≤ length (elements_of l.pools.constants l.list);
}

abbrev pub decreases-loop-item : goal.decreases-loop-item
decreases-loop-item l = length (elements_of l.pools.constants l.list) - l.next
