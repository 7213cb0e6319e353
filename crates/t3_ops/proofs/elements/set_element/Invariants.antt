use Rattle.std.proofs.Common.{◌≡◌, ◌≤◌, ◌+◌, ◌-◌, true, max}
use Rattle.t3_store.specs.Store.{value_at}
use Rattle.t3_ops.specs.Elements.{IsVectorOf, after_writes, element_writes, nil_writes}
use Rattle.t3_ops.proofs.elements.set_element.Given as goal

abbrev pub invariant-loop-count : goal.invariant-loop-count
invariant-loop-count l = record {
  told : after_writes l.object (element_writes l.count l.index l.value) l.store.store
      ≡ after_writes l.object (element_writes l.length l.index l.value) l.initial.store.store;
  nils : after_writes l.object (nil_writes (l.count - l.length) (l.length + 1)) l.initial.store.store ≡ (true, l.store.store);
  vector : IsVectorOf (value_at l.store.store l.object) l.count;
  writes : l.store.writes ≤ l.initial.store.writes + (l.count - l.length);
  savepoints : l.store.savepoints ≡ l.initial.store.savepoints;
  from : l.length ≤ l.count;
  to : l.count ≤ max l.length (l.index - 1);
}

abbrev pub decreases-loop-count : goal.decreases-loop-count
decreases-loop-count l = l.index - l.count
