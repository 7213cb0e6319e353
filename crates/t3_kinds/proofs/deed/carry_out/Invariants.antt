use Rattle.std.proofs.Common.{◌≡◌, ◌++◌, ◌+◌, ◌≤◌, true, length}
use Rattle.std.specs.Vec.Iter.{into_iter_items, into_iter_len}
use Rattle.t3_kinds.specs.Changes.{changed}
use Rattle.t3_kinds.specs.Inner.Deeds.{changes_of, CanAllBeDone}
use Rattle.t3_kinds.proofs.deed.carry_out.Given as goal

-- those that were gone over were made, and the store can make those that are left
abbrev pub invariant-loop-change : goal.invariant-loop-change
invariant-loop-change l = record {
  whole : l.yielded ++ into_iter_items l.change-iterator ≡ into_iter_items l.initial.change-iterator;
  made : changed (changes_of l.yielded) l.initial.store.store ≡ (true, l.store.store);
  can : CanAllBeDone (changes_of (into_iter_items l.change-iterator)) l.store.store;
  writes : l.store.writes ≤ l.initial.store.writes + length l.yielded;
  savepoints : l.store.savepoints ≡ l.initial.store.savepoints;
  counted : into_iter_len l.change-iterator ≡ length (into_iter_items l.change-iterator);
}
