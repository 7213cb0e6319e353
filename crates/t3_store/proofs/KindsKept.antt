-- What the kinds rest on stays true of a store, whatever happens.
use Rattle.std.proofs.Common.{◌≡◌, sym, subst, ℕ, ◌+◌, ◌≤◌, List, [], ◌∷◌, take, drop, Option, None, arith}
use Rattle.std.specs.FinMap.{get, insert}
use Rattle.t3_undo.specs.Content.{Parts}
use Rattle.t3_undo.specs.Present.{Present}
use Rattle.t3_undo.specs.Objects.{Objects, Segment, part_at}
use Rattle.t3_undo.specs.Objects as journaled
use Rattle.t3_undo.specs.Journal.{note_in}
use Rattle.t3_undo.specs.UndoLaw as law
use Rattle.t3_undo.specs.declared.cell.Cell.{Cell}
use Rattle.t3_store.specs.Value.{Value}
use Rattle.t3_store.specs.Inner.Shapes.{Shape, Stored, AreWithin}
use Rattle.t3_store.specs.Inner.Valid.{AreValid, AreValidBefore}
use Rattle.t3_store.specs.Inner.Store.{IsWritten, AreKindsKept, AreRecordsWithin, record_of}
use Rattle.t3_store.proofs.Ticks.{risen-most, within-more, within-insert, records-more, records-noted, records-take, records-drop}
use Rattle.t3_store.proofs.Validity.{back-noted, back-made, back-take, back-saved, back-undone}

-- a write
pub kinds-persistent : (old new t : Stored) (ss : List Segment) (limit n stamp writes : ℕ) (c : Cell) (g : Value → Value)
    (was : Option Present) → AreKindsKept old t ss writes → IsWritten old new n c g was
    → AreKindsKept new t (note_in limit (record_of n c was stamp) ss) (writes + 1)
kinds-persistent old new t ss limit n stamp writes c g was kinds w =
    let up = w.ticks (writes + 1) kinds.persistent_ticks in
    record {
      valid = subst (λ m. AreValidBefore m (note_in limit (record_of n c was stamp) ss)) (sym w.objects)
          (subst (λ o. AreValidBefore (journaled.set_cell old.objects n c w.content) (note_in limit (record_of n c o stamp) ss)) (sym w.stood)
          (back-noted limit ss old.objects n c w.content stamp kinds.valid));
      persistent_ticks = within-more _ (writes + 1 + 1) new.ticks (risen-most (writes + 1) was) up.1;
      transient_ticks = within-more (writes + 1) (writes + 1 + 1) t.ticks (omega arith) kinds.transient_ticks;
      records = records-noted (writes + 1 + 1) limit (record_of n c was stamp) ss (omega (arith, up.0))
          (records-more (writes + 1) (writes + 1 + 1) ss (omega arith) kinds.records);
    }

pub kinds-transient : (p old new : Stored) (ss : List Segment) (n writes : ℕ) (c : Cell) (g : Value → Value) (was : Option Present)
    → AreKindsKept p old ss writes → IsWritten old new n c g was → AreKindsKept p new ss (writes + 1)
kinds-transient p old new ss n writes c g was kinds w =
    let up = w.ticks (writes + 1) kinds.transient_ticks in
    record {
      valid = kinds.valid;
      persistent_ticks = within-more (writes + 1) (writes + 1 + 1) p.ticks (omega arith) kinds.persistent_ticks;
      transient_ticks = within-more _ (writes + 1 + 1) new.ticks (risen-most (writes + 1) was) up.1;
      records = records-more (writes + 1) (writes + 1 + 1) ss (omega arith) kinds.records;
    }

-- a write that changes nothing
pub kinds-more : (p t : Stored) (ss : List Segment) (writes : ℕ) → AreKindsKept p t ss writes → AreKindsKept p t ss (writes + 1)
kinds-more p t ss writes kinds = record {
  valid = kinds.valid;
  persistent_ticks = within-more (writes + 1) (writes + 1 + 1) p.ticks (omega arith) kinds.persistent_ticks;
  transient_ticks = within-more (writes + 1) (writes + 1 + 1) t.ticks (omega arith) kinds.transient_ticks;
  records = records-more (writes + 1) (writes + 1 + 1) ss (omega arith) kinds.records;
}

-- a creation
pub kinds-created : (p t new : Stored) (ss : List Segment) (next writes tick : ℕ) (thing : Shape × Parts) → AreKindsKept p t ss writes
    → ((q : Segment) (qs : List Segment) → ss ≡ q ∷ qs → q.next ≤ next) → tick ≤ 1 → new.objects ≡ insert p.objects next thing
    → new.ticks ≡ insert p.ticks next tick → AreKindsKept new t ss writes
kinds-created p t new ss next writes tick thing kinds older few objects ticks = record {
  valid = subst (λ m. AreValidBefore m ss) (sym objects) (back-made ss p.objects next thing older kinds.valid);
  persistent_ticks = subst (AreWithin (writes + 1)) (sym ticks)
      (within-insert (writes + 1) p.ticks next tick kinds.persistent_ticks (omega arith));
  transient_ticks = kinds.transient_ticks;
  records = kinds.records;
}

pub kinds-made : (p t new : Stored) (ss : List Segment) (next writes tick : ℕ) → AreKindsKept p t ss writes
    → tick ≤ 1 → new.ticks ≡ insert t.ticks next tick → AreKindsKept p new ss writes
kinds-made p t new ss next writes tick kinds few ticks = record {
  valid = kinds.valid;
  persistent_ticks = kinds.persistent_ticks;
  transient_ticks = subst (AreWithin (writes + 1)) (sym ticks)
      (within-insert (writes + 1) t.ticks next tick kinds.transient_ticks (omega arith));
  records = kinds.records;
}

-- a savepoint
pub kinds-saved : (p t : Stored) (ss : List Segment) (serial next k writes : ℕ) → AreKindsKept p t ss writes → AreValid p.objects
    → ((q : ℕ) → next ≤ q → get p.objects q ≡ None)
    → AreKindsKept p t (record { serial = serial; next = next; records = [] } ∷ take k ss) writes
kinds-saved p t ss serial next k writes kinds valid all = record {
  valid = back-saved serial next (take k ss) p.objects all valid (back-take k ss p.objects kinds.valid);
  persistent_ticks = kinds.persistent_ticks;
  transient_ticks = kinds.transient_ticks;
  records = (tt, records-take (writes + 1) k ss kinds.records);
}

-- an undo
pub kinds-undone : (p t new : Stored) (ss : List Segment) (writes : ℕ) → AreKindsKept p t ss writes → new.objects ≡ law.undone p.objects ss
    → ((bound : ℕ) → AreWithin bound p.ticks → AreRecordsWithin bound ss → AreWithin bound new.ticks) → AreKindsKept new t (drop 1 ss) writes
kinds-undone p t new ss writes kinds objects ticks = record {
  valid = subst (λ m. AreValidBefore m (drop 1 ss)) (sym objects) (back-undone ss p.objects kinds.valid);
  persistent_ticks = ticks (writes + 1) kinds.persistent_ticks kinds.records;
  transient_ticks = kinds.transient_ticks;
  records = records-drop (writes + 1) ss kinds.records;
}

-- a new store
pub kinds-started : (p t : Stored) (first passing writes : ℕ) → AreWithin (first + 1) p.ticks → AreWithin (passing + 1) t.ticks
    → writes ≡ first + passing → AreKindsKept p t [] writes
kinds-started p t first passing writes one other sum = record {
  valid = tt;
  persistent_ticks = within-more (first + 1) (writes + 1) p.ticks (omega arith) one;
  transient_ticks = within-more (passing + 1) (writes + 1) t.ticks (omega arith) other;
  records = tt;
}
