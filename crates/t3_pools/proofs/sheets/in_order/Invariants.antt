use Rattle.std.proofs.Common.{◌≡◌, ◌<◌, ℕ, length}
use Rattle.std.specs.List.{slice_get}
use Rattle.std.specs.Ordering.{nat_cmp}
use Rattle.std.specs.BTreeMap.{get as get_key}
use Rattle.t3_pools.proofs.sheets.in_order.Given as goal

abbrev pub invariant-loop-index : goal.invariant-loop-index
invariant-loop-index l = record {
  counted : length l.ordered.items ≡ l.index-counter;
  each : (k : ℕ) → k < l.index-counter → get_key nat_cmp l.pages k ≡ slice_get l.ordered.items k;
}
