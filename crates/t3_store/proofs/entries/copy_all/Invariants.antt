use Rattle.std.proofs.Common.{◌≡◌, map, take}
use Rattle.t3_store.specs.Inner.Entries.{keyed, AreAllValid, HaveTicksForUnits, HaveAllFreshPlaces}
use Rattle.t3_store.proofs.entries.copy_all.Given as goal

abbrev pub invariant-loop-entry : goal.invariant-loop-entry
invariant-loop-entry l = record {
  values : map keyed l.copy.items ≡ map keyed (take l.entry-index l.entries);
  valid : AreAllValid l.copy.items;
  ticks : HaveTicksForUnits l.copy.items;
  fresh_places : HaveAllFreshPlaces l.copy.items;
}
