-- That the objects of a store have few places, whatever happens.
use Rattle.std.proofs.Common.{◌≡◌, ◌∙◌, ap, sym, subst, refl, ℕ, ◌<◌, ◌≤◌, inl, Bool, true, false, cond, ◌||◌, lt-ltb, true≢false, List, [], ◌∷◌, take, drop, Option, None, Some, arith}
use Rattle.std.specs.List.{AllByRecursion}
use Rattle.std.specs.Ordering.{nat_cmp}
use Rattle.std.specs.FinMap.{FinMap, get, insert}
use Rattle.t3_undo.specs.Content.{Parts, Places, places_for}
use Rattle.t3_undo.specs.Present.{Present}
use Rattle.t3_undo.specs.Objects as journaled
use Rattle.t3_undo.specs.Objects.{Objects, OldPart, Segment, part_at}
use Rattle.t3_undo.specs.Journal.{Held, note_in, newest_next, newest_records}
use Rattle.t3_undo.specs.UndoLaw as law
use Rattle.t3_undo.specs.declared.cell.Cell.{Cell}
use Rattle.t3_undo.proofs.PuttingBack.{get-before}
use Rattle.t3_store.specs.Value.{Value}
use Rattle.t3_store.specs.Inner.Shapes.{Shape, Stored, stamp_in, stamp_at, places_below, HaveZeroStamps}
use Rattle.t3_store.specs.Inner.Valid.{AreValid}
use Rattle.t3_store.specs.Inner.Bounded.{parts_of, parts_under, HaveFreshPlaces, AreBounded, AreOthersBounded, IsPlaced, IsTidiedAt, IsWithoutGaps, HaveNoGaps, HaveFewPlaces, is_recorded}
use Rattle.t3_store.specs.Inner.Store.{IsWritten, NotesChange, IsPurged, CanEachBePut, IsSound, IsStore, record_of}
use Rattle.t3_store.specs.declared.limits.StoreLimits.{StoreLimits}
use Rattle.t3_store.proofs.FewPlaces.{bounded-afresh, bounded-placed, bounded-noted, bounded-insert, others-kept, noted-others}
use Rattle.t3_store.proofs.Creating.{older-newest}
use Rattle.t3_store.proofs.NoGaps.{without-gaps, gaps-noted, gaps-made, gaps-saved, gaps-undone}
use Rattle.t3_store.proofs.Keeping.{sound-keep}
use Rattle.t3_store.proofs.Purged.{purged, purged-few, sound-purged, sound-put, stamped-purged}
use Rattle.t3_store.proofs.Rows.{same, same-is}
use Rattle.t3_store.proofs.Saving.{sound-below, kept-below}
use Rattle.t3_store.proofs.Stamped.{stamped-afresh}

-- ---- a change of a persistent object that is noted

pub gaps-written : (p mid new : Stored) (j after : Held) (n : ℕ) (c : Cell) (g : Value → Value) (was : Option Present) → IsWritten p mid n c g was
    → NotesChange mid new j after n c was → HaveNoGaps p.objects j.segments → HaveNoGaps new.objects after.segments
gaps-written p mid new j after n c g was w noted gaps =
    subst (λ (h : Held). HaveNoGaps new.objects h.segments) (sym noted.recorded)
    (subst (λ m. HaveNoGaps m (note_in j.record_limit (record_of n c was noted.stamp) j.segments)) (sym (noted.objects ∙ w.objects))
    (subst (λ o. HaveNoGaps (journaled.set_cell p.objects n c w.content) (note_in j.record_limit (record_of n c o noted.stamp) j.segments)) (sym w.stood)
    (gaps-noted j.record_limit j.segments p.objects n c w.content noted.stamp w.filled gaps)))

pub places-noted : (r : ℕ) (p mid new t : Stored) (j after : Held) (n : ℕ) (c : Cell) (g : Value → Value) (was : Option Present)
    → HaveFewPlaces p t r j.segments → IsWritten p mid n c g was → IsPlaced p mid n c → NotesChange mid new j after n c was
    → HaveFewPlaces new t r after.segments
places-noted r p mid new t j after n c g was is w placed noted = record {
  gaps = gaps-written p mid new j after n c g was w noted is.gaps;
  few = bounded-noted r mid new j after n c was noted (bounded-placed r p mid n c w.content w.objects placed is.few);
  few_transient = is.few_transient;
}

-- a cell is taken away: then all objects but that one have few places
pub others-noted : (r : ℕ) (p mid new : Stored) (j after : Held) (n : ℕ) (c : Cell) (g : Value → Value) (was : Option Present)
    → IsWritten p mid n c g was → mid.places ≡ p.places → NotesChange mid new j after n c was → AreBounded r p → AreOthersBounded r n new
others-noted r p mid new j after n c g was w same noted few =
    others-kept r p new n c w.content (noted.objects ∙ w.objects)
    (λ q apart. noted-others mid new j after n c was noted q apart ∙ ap (λ m. get m q) same) few

-- ---- a change of a transient one

pub places-transient : (r : ℕ) (p old new : Stored) (ss : List Segment) (n : ℕ) (c : Cell) (g : Value → Value) (was : Option Present)
    → HaveFewPlaces p old r ss → IsWritten old new n c g was → IsPlaced old new n c → HaveFewPlaces p new r ss
places-transient r p old new ss n c g was is w placed = record {
  gaps = is.gaps;
  few = is.few;
  few_transient = bounded-placed r old new n c w.content w.objects placed is.few_transient;
}

-- an object of which no savepoint knows is purged
none-purged : (records oldest n : ℕ) (old new : Stored) → 0 < oldest → HaveZeroStamps old.places → IsTidiedAt records oldest n old new
    → IsPurged old new []
none-purged records oldest n old new above zeros tidied =
    purged records 0 oldest n old new [] (inl (refl, above)) (stamped-afresh 0 old.places zeros) tidied

pub zeros-purged : (old new : Stored) → IsPurged old new [] → HaveZeroStamps old.places → HaveZeroStamps new.places
zeros-purged old new gone zeros q own e c t there = by (gone.fewer q c t (ap (λ o. stamp_in o c) e ∙ there))
  where
    by : stamp_at old.places q c ≡ Some t → t ≡ 0
    by was = among (get old.places q) refl was
      where
        among : (o : Option Places) → get old.places q ≡ o → stamp_in o c ≡ Some t → t ≡ 0
        among None f was = cc
        among (Some own) f was = zeros q own f c t was

none-bounded : (records oldest n : ℕ) (old new : Stored) → 0 < oldest → HaveZeroStamps old.places → AreValid old.objects
    → IsTidiedAt records oldest n old new → AreOthersBounded records n old → AreBounded records new
none-bounded records oldest n old new above zeros valid tidied others =
    purged-few records 0 oldest n old new [] (inl (refl, above)) (stamped-afresh 0 old.places zeros)
    (without-gaps [] old.objects n valid tt) (omega arith) tidied others

pub places-taken : (r oldest : ℕ) (p old mid new : Stored) (ss : List Segment) (n : ℕ) (c : Cell) (g : Value → Value) (was : Option Present)
    → 0 < oldest → HaveFewPlaces p old r ss → IsWritten old mid n c g was → mid.places ≡ old.places → HaveZeroStamps mid.places
    → AreValid mid.objects → IsTidiedAt r oldest n mid new → HaveFewPlaces p new r ss
places-taken r oldest p old mid new ss n c g was above is w same zeros valid tidied = record {
  gaps = is.gaps;
  few = is.few;
  few_transient = none-bounded r oldest n mid new above zeros valid tidied
      (others-kept r old mid n c w.content w.objects (λ q apart. ap (λ m. get m q) same) is.few_transient);
}

-- ---- a purge

pub persistent-purged : (p t new : Stored) (next next_transient : ℕ) (limits : StoreLimits) (j : Held) (units : List ℕ) (room writes : ℕ)
    → IsStore p t next next_transient limits j units room writes → IsPurged p new j.segments
    → IsStore new t next next_transient limits j units room writes
persistent-purged p t new next next_transient limits j units room writes is gone =
    subst (λ (s : Stored). IsStore s t next next_transient limits j units room writes) (sym same) (record {
      bounded = is.bounded;
      records = is.records;
      savepoints = is.savepoints;
      numbered = is.numbered;
      sound = sound-purged p new next j.segments gone is.sound;
      stamped = stamped-purged j.marks p new j.segments gone is.stamped;
      transient_stamps = is.transient_stamps;
      counted = is.counted;
      few_writes = is.few_writes;
      whole = is.whole;
      kinds = record {
        valid = is.kinds.valid;
        persistent_ticks = is.kinds.persistent_ticks;
        transient_ticks = is.kinds.transient_ticks;
        records = is.kinds.records;
      };
    })
  where
    same : new ≡ record { objects = p.objects; places = new.places; ticks = p.ticks }
    same = λ i. record { objects = gone.objects i; places = new.places; ticks = gone.ticks i }

pub transient-purged : (records oldest n : ℕ) (p t new : Stored) (next next_transient : ℕ) (limits : StoreLimits) (j : Held) (units : List ℕ)
    (room writes : ℕ) → 0 < oldest → IsStore p t next next_transient limits j units room writes → IsTidiedAt records oldest n t new
    → IsStore p new next next_transient limits j units room writes
transient-purged records oldest n p t new next next_transient limits j units room writes above is tidied =
    subst (λ (s : Stored). IsStore p s next next_transient limits j units room writes) (sym same) (record {
      bounded = is.bounded;
      records = is.records;
      savepoints = is.savepoints;
      numbered = is.numbered;
      sound = is.sound;
      stamped = is.stamped;
      transient_stamps = zeros-purged t new gone is.transient_stamps;
      counted = is.counted;
      few_writes = is.few_writes;
      whole = is.whole;
      kinds = record {
        valid = is.kinds.valid;
        persistent_ticks = is.kinds.persistent_ticks;
        transient_ticks = is.kinds.transient_ticks;
        records = is.kinds.records;
      };
    })
  where
    gone : IsPurged t new []
    gone = none-purged records oldest n t new above is.transient_stamps tidied

    same : new ≡ record { objects = t.objects; places = new.places; ticks = t.ticks }
    same = λ i. record { objects = gone.objects i; places = new.places; ticks = gone.ticks i }

-- ---- all else

pub places-created : (r : ℕ) (p t new : Stored) (ss : List Segment) (next tick : ℕ) (thing : Shape × Parts) (own : Places) → HaveFewPlaces p t r ss
    → IsSound p.places next ss → own ≡ places_for thing.1
    → new ≡ record { objects = insert p.objects next thing; places = insert p.places next own; ticks = insert p.ticks next tick }
    → HaveFewPlaces new t r ss
places-created r p t new ss next tick thing own is sound fresh changed =
    subst (λ (s : Stored). HaveFewPlaces s t r ss) (sym changed) (record {
      gaps = gaps-made ss p.objects next thing (older-newest p.places next ss sound) is.gaps;
      few = bounded-insert r p next tick thing own fresh is.few;
      few_transient = is.few_transient;
    })

pub places-made : (r : ℕ) (p t new : Stored) (ss : List Segment) (next tick : ℕ) (thing : Shape × Parts) (own : Places) → HaveFewPlaces p t r ss
    → own ≡ places_for thing.1
    → new ≡ record { objects = insert t.objects next thing; places = insert t.places next own; ticks = insert t.ticks next tick }
    → HaveFewPlaces p new r ss
places-made r p t new ss next tick thing own is fresh changed =
    subst (λ (s : Stored). HaveFewPlaces p s r ss) (sym changed) (record {
      gaps = is.gaps;
      few = is.few;
      few_transient = bounded-insert r t next tick thing own fresh is.few_transient;
    })

pub places-saved : (r : ℕ) (p t : Stored) (ss : List Segment) (serial next k : ℕ) → HaveFewPlaces p t r ss
    → ((q : ℕ) → next ≤ q → get p.objects q ≡ None)
    → HaveFewPlaces p t r (record { serial = serial; next = next; records = [] } ∷ take k ss)
places-saved r p t ss serial next k is all = record {
  gaps = gaps-saved serial next k ss p.objects all is.gaps;
  few = is.few;
  few_transient = is.few_transient;
}

pub places-undone : (r : ℕ) (p t new : Stored) (ss : List Segment) → HaveFewPlaces p t r ss → new.objects ≡ law.undone p.objects ss
    → AreBounded r new → HaveFewPlaces new t r (drop 1 ss)
places-undone r p t new ss is objects few = record {
  gaps = subst (λ m. HaveNoGaps m (drop 1 ss)) (sym objects) (gaps-undone ss p.objects is.gaps);
  few = few;
  few_transient = is.few_transient;
}

pub places-begun : (r : ℕ) (p t : Stored) → HaveFreshPlaces p → HaveFreshPlaces t → HaveFewPlaces p t r []
places-begun r p t one other = record { gaps = tt; few = bounded-afresh r p one; few_transient = bounded-afresh r t other }

pub places-replaced : (r : ℕ) (p t new : Stored) (ss : List Segment) → HaveFewPlaces p t r ss → HaveFreshPlaces new → HaveFewPlaces new t r []
places-replaced r p t new ss is one = record { gaps = tt; few = bounded-afresh r new one; few_transient = is.few_transient }

-- ---- an undo

recorded-older : (rs : List OldPart) (q next : ℕ) → is_recorded q rs ≡ true → AllByRecursion (λ part. part.number < next) rs → q < next
recorded-older [] q next noted all = absurd (true≢false (sym noted))
recorded-older (r ∷ rs) q next noted all = by (same q r.number) refl noted (λ rest. recorded-older rs q next rest all.1)
  where
    by : (b : Bool) → same q r.number ≡ b → (b || is_recorded q rs) ≡ true → (is_recorded q rs ≡ true → q < next) → q < next
    by true e noted rest = let at = same-is q r.number e in let less = all.0 in omega (arith, at, less)
    by false e noted rest = rest noted

-- an object with a record has no gaps once all records are put back
pub back-gaps : (m : Objects Shape) (ss : List Segment) (places : FinMap nat_cmp Places) (next : ℕ) → newest_next ss ≡ Some next
    → IsSound places next ss → AreValid (law.undone m ss) → HaveNoGaps (law.undone m ss) (drop 1 ss) → (q : ℕ)
    → is_recorded q (newest_records ss) ≡ true
    → IsWithoutGaps q (parts_under (journaled.put_back m (newest_records ss)) q) (drop 1 ss)
back-gaps m [] places next held sound valid gaps q noted = cc
back-gaps m (s ∷ ss) places next held sound valid gaps q noted =
    let less = recorded-older s.records q s.next noted sound.1 in
    subst (λ (p : Parts). IsWithoutGaps q p ss)
    (ap parts_of (get-before s m q ∙ ap (λ b. cond b (get (journaled.put_back m s.records) q) None) (lt-ltb q s.next less)))
    (without-gaps ss (journaled.before m s) q valid gaps)

-- the older records can be put back where objects that were made since are gone
pub sound-cut : (old mid : FinMap nat_cmp Places) (next : ℕ) (ss : List Segment) → newest_next ss ≡ Some next → IsSound old next ss
    → CanEachBePut mid (drop 1 ss) → IsSound (places_below next mid) next (drop 1 ss)
sound-cut old mid next [] held sound can = cc
sound-cut old mid next (s ∷ ss) held sound can =
    let same_next : s.next ≡ next = cc in
    sound-below mid (places_below next mid) s.next next ss (λ q c l. kept-below mid next q c (omega (arith, same_next, l))) sound.0
    (sound-put old mid s.next ss sound.3 can)

-- it is enough that next numbers don't rise up to the newest
pub sound-newest : (places : FinMap nat_cmp Places) (top next : ℕ) (ss : List Segment) → newest_next ss ≡ Some next → IsSound places top ss
    → IsSound places next ss
sound-newest places top next [] held sound = cc
sound-newest places top next (s ∷ ss) held sound =
    let same_next : s.next ≡ next = cc in (omega (arith, same_next), sound.1, sound.2, sound.3)

pub sound-more : (places : FinMap nat_cmp Places) (top next : ℕ) (ss qs : List Segment) → newest_next ss ≡ Some next → IsSound places top ss
    → qs ≡ drop 1 ss → (new : FinMap nat_cmp Places) → IsSound new next qs → IsSound new top qs
sound-more places top next [] qs held sound is new fits = cc
sound-more places top next (s ∷ ss) qs held sound is new fits =
    let same_next : s.next ≡ next = cc in sound-keep new new next top qs (λ q c there. there) (omega (arith, same_next, sound.0)) fits
