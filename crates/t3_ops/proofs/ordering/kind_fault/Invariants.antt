use Rattle.std.proofs.Common.{◌≡◌, drop}
use Rattle.std.specs.List.{list_any}
use Rattle.t3_ops.specs.Values.{is_stale}
use Rattle.t3_ops.proofs.ordering.kind_fault.Given as goal

-- what is left has a stale one exactly where all have
abbrev pub invariant-loop-value : goal.invariant-loop-value
invariant-loop-value l = list_any (is_stale l.store.store) (drop l.value-index l.values) ≡ list_any (is_stale l.store.store) l.values
