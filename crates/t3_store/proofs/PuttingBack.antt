-- The newest savepoint's records put back one after another.
use Rattle.std.proofs.Common.{◌≡◌, ◌∙◌, ap, sym, subst, refl, ℕ, ◌+◌, ◌<◌, ◌≤◌, ◌⊎◌, inl, inr, Bool, true, false, cond, ◌&&◌, ◌||◌, List, [], ◌∷◌, length, drop, Option, None, Some, IsSome, is_some, true≢false, arith}
use Rattle.std.specs.List.{AllByRecursion}
use Rattle.std.specs.Option.{option_map}
use Rattle.std.specs.Ordering.{nat_cmp, eq_by_cmp}
use Rattle.std.specs.Cmp.{nat_cmp_total}
use Rattle.std.specs.FinMap.{FinMap, get, insert}
use Rattle.t3_undo.specs.Cell.{cell_cmp}
use Rattle.t3_undo.specs.Content.{Parts, Places}
use Rattle.t3_undo.specs.Objects.{Objects, OldPart, Segment, AreApart, set_cell, with_part, put_back, is_noted}
use Rattle.t3_undo.specs.Journal.{Held, total, newest_records, newest_record, but_newest_record, oldest_serial, first, HaveDistinctCells}
use Rattle.t3_undo.specs.Stamps.{AreStamped, HasRecord}
use Rattle.t3_undo.specs.Purging.{IsOldest}
use Rattle.t3_undo.specs.declared.cell.Cell.{Cell}
use Rattle.t3_undo.specs.declared.cell.Cell.TheVariants as cells
use Rattle.t3_undo.proofs.Maps.{get-adjust}
use Rattle.t3_undo.proofs.Purging.{record-there, record-where}
use Rattle.t3_store.specs.Inner.Shapes.{Shape, Stored, has_place, stamp_at, with_place_stamp, tick_behind, AreWithin}
use Rattle.t3_store.specs.Inner.Bounded.{parts_of, parts_under, IsBounded, AreBounded, IsTidiedAt, IsWithoutGaps, is_recorded}
use Rattle.t3_store.specs.Inner.Store.{CanBePut, CanAllBePut, CanEachBePut, HaveSamePlaces, AreRecordsWithin, IsPurged, emptied}
use Rattle.t3_store.specs.Inner.Entries.{IsRising, things_of, places_in, ticks_in, stored_of}
use Rattle.t3_store.specs.declared.entries.Entry.{Entry}
use Rattle.t3_store.proofs.Keeping.{put-keep}
use Rattle.t3_store.proofs.NoGaps.{first-false, second-false}
use Rattle.t3_store.proofs.OwnPlaces.{parts-other}
use Rattle.t3_store.proofs.Purged.{own-stamps, purged, purged-put, stamped-purged, tidied-few}
use Rattle.t3_store.proofs.Rows.{same, same-is, same-itself}
use Rattle.t3_store.proofs.Stamped.{the-stamp, stamped-put, places-with_place_stamp}

-- each object has few places, but where a record of it is to be put back
abbrev pub AreBoundedBut : ℕ → List OldPart → Stored → Type 0
AreBoundedBut records parts stored = (number : ℕ) (own : Places) → get stored.places number ≡ Some own
    → IsBounded records (parts_under stored.objects number) own ⊎ (is_recorded number parts ≡ true)

-- what is still to be put back leads to the same objects as all that was
pub record IsPutting (records oldest : ℕ) (from es : List Entry) (before now : Held) : Type 0 where
  pub rising : IsRising es
  pub things : put_back (things_of es) (newest_records now.segments) ≡ put_back (things_of from) (newest_records before.segments)
  pub stamped : AreStamped now.marks (stamp_at (places_in es)) now.segments
  pub distinct : HaveDistinctCells now.segments
  pub len : length es ≡ length from
  pub can : CanEachBePut (places_in es) now.segments
  pub few : total now.segments ≤ records
  pub since : IsOldest now.marks oldest now.segments
  pub bounded : AreBoundedBut records (newest_records now.segments) (stored_of es)
  pub among : (q : ℕ) → is_recorded q (newest_records now.segments) ≡ true → is_recorded q (newest_records before.segments) ≡ true
  pub ticks : (bound : ℕ) → AreWithin bound (ticks_in from) → AreRecordsWithin bound before.segments
      → AreWithin bound (ticks_in es) × AreRecordsWithin bound now.segments
  pub journal : record now { segments = emptied now.segments } ≡ record before { segments = emptied before.segments }

-- of an object that has a record, what is left has no gaps once all records are put back
abbrev pub AreWithoutGaps : List Entry → Held → Type 0
AreWithoutGaps from before =
    (q : ℕ) → is_recorded q (newest_records before.segments) ≡ true
    → IsWithoutGaps q (parts_under (put_back (things_of from) (newest_records before.segments)) q) (drop 1 before.segments)

record IsTaken (part : OldPart) (ss : List Segment) : Type 0 where
  records : newest_records ss ≡ part ∷ newest_records (but_newest_record ss)
  same : emptied (but_newest_record ss) ≡ emptied ss

-- the newest record taken
taken : (part : OldPart) (ss : List Segment) → Some part ≡ newest_record ss → IsTaken part ss
taken part [] e = cc
taken part (s ∷ ss) e = by s.records refl
  where
    by : (parts : List OldPart) → s.records ≡ parts → IsTaken part (s ∷ ss)
    by [] is = let none : newest_record (s ∷ ss) ≡ None = ap first is in cc
    by (p ∷ ps) is =
        let some : newest_record (s ∷ ss) ≡ Some p = ap first is in
        let same : p ≡ part = cc in
        record { records = is ∙ (λ i. same i ∷ drop 1 (sym is i)); same = refl }

pub can-first : (part : OldPart) (ss : List Segment) (places : FinMap nat_cmp Places) → Some part ≡ newest_record ss
    → CanEachBePut places ss → CanBePut places part
can-first part [] places e can = cc
can-first part (s ∷ ss) places e can = (subst (CanAllBePut places) (taken part (s ∷ ss) e).records can.0).0

can-rest : (ss : List Segment) (places : FinMap nat_cmp Places) → CanEachBePut places ss → CanEachBePut places (but_newest_record ss)
can-rest [] places can = tt
can-rest (s ∷ ss) places can = (by s.records can.0, can.1)
  where
    by : (parts : List OldPart) → CanAllBePut places parts → CanAllBePut places (drop 1 parts)
    by [] can = tt
    by (p ∷ ps) can = can.1

can-same : (old new : FinMap nat_cmp Places) (ss : List Segment) → HaveSamePlaces old new → CanEachBePut old ss → CanEachBePut new ss
can-same old new [] same can = tt
can-same old new (s ∷ ss) same can = (put-keep old new s.records (λ q d there. same q d ∙ there) can.0, can-same old new ss same can.1)

total-rest : (ss : List Segment) → total (but_newest_record ss) ≤ total ss
total-rest [] = omega arith
total-rest (s ∷ ss) = by s.records
  where
    by : (parts : List OldPart) → length (drop 1 parts) + total ss ≤ length parts + total ss
    by [] = omega arith
    by (p ∷ ps) = omega arith

oldest-rest : (ss : List Segment) → oldest_serial (but_newest_record ss) ≡ oldest_serial ss
oldest-rest [] = refl
oldest-rest (s ∷ ss) = refl

since-rest : (made oldest : ℕ) (ss : List Segment) → IsOldest made oldest ss → IsOldest made oldest (but_newest_record ss)
since-rest made oldest ss (inl none) = inl (oldest-rest ss ∙ none.0, none.1)
since-rest made oldest ss (inr some) = inr (oldest-rest ss ∙ some)

drop-rest : (ss : List Segment) → drop 1 (but_newest_record ss) ≡ drop 1 ss
drop-rest [] = refl
drop-rest (s ∷ ss) = refl

drop-emptied : (ss : List Segment) → drop 1 (emptied ss) ≡ drop 1 ss
drop-emptied [] = refl
drop-emptied (s ∷ ss) = refl

-- an object of which no record is left is as it will be
unrecorded-back : (rs : List OldPart) (m : Objects Shape) (q : ℕ) → is_recorded q rs ≡ false → get (put_back m rs) q ≡ get m q
unfolding put_back
unrecorded-back [] m q none = refl
unrecorded-back (r ∷ rs) m q none =
    unrecorded-back rs (set_cell m r.number r.cell r.old) q (second-false (same q r.number) (is_recorded q rs) none)
    ∙ get-adjust nat_cmp_total m r.number (with_part r.cell r.old) q
    ∙ λ i. cond (first-false (same q r.number) (is_recorded q rs) none i) (option_map (with_part r.cell r.old) (get m q)) (get m q)

unrecorded-noted : (rs : List OldPart) (q : ℕ) (c : Cell) → is_recorded q rs ≡ false → is_noted q c rs ≡ false
unrecorded-noted [] q c none = refl
unrecorded-noted (r ∷ rs) q c none =
    ap (λ b. (b && eq_by_cmp cell_cmp c r.cell) || is_noted q c rs) (first-false (same q r.number) (is_recorded q rs) none)
    ∙ unrecorded-noted rs q c (second-false (same q r.number) (is_recorded q rs) none)

-- then it has no gaps among the records that are left
gaps-more : (q : ℕ) (parts : Parts) (ss : List Segment) → is_recorded q (newest_records ss) ≡ false → IsWithoutGaps q parts (drop 1 ss)
    → IsWithoutGaps q parts ss
gaps-more q parts [] none gaps lower higher above less gone needed = gaps lower higher above less gone needed
gaps-more q parts (s ∷ ss) none gaps lower higher above less gone needed =
    record-there q (cells.Elem lower) s ss (gaps lower higher above less gone (by needed))
  where
    other : (is_noted q (cells.Elem higher) s.records ≡ true) ⊎ HasRecord q (cells.Elem higher) ss → HasRecord q (cells.Elem higher) ss
    other (inl here) = absurd (true≢false (sym here ∙ unrecorded-noted s.records q (cells.Elem higher) none))
    other (inr there) = there

    by : IsSome (get parts (cells.Elem higher)) ⊎ HasRecord q (cells.Elem higher) (s ∷ ss)
        → IsSome (get parts (cells.Elem higher)) ⊎ HasRecord q (cells.Elem higher) ss
    by (inl present) = inl present
    by (inr has) = inr (other (record-where q (cells.Elem higher) s ss has))

-- the newest record's tick is within the bound, and those of the others
first-within : (bound : ℕ) (part : OldPart) (ss : List Segment) → Some part ≡ newest_record ss → AreRecordsWithin bound ss
    → tick_behind part.old ≤ bound
first-within bound part [] e all = cc
first-within bound part (s ∷ ss) e all = by s.records e all.0
  where
    by : (parts : List OldPart) → Some part ≡ first parts → AllByRecursion (λ p. tick_behind p.old ≤ bound) parts → tick_behind part.old ≤ bound
    by [] e all = cc
    by (p ∷ ps) e all = let is : p ≡ part = cc in subst (λ (p : OldPart). tick_behind p.old ≤ bound) is all.0

rest-distinct : (ss : List Segment) → HaveDistinctCells ss → HaveDistinctCells (but_newest_record ss)
rest-distinct [] all = tt
rest-distinct (s ∷ ss) all = (by s.records all.0, all.1)
  where
    by : (parts : List OldPart) → AreApart parts → AreApart (drop 1 parts)
    by [] apart = tt
    by (p ∷ ps) apart = apart.1

rest-within : (bound : ℕ) (ss : List Segment) → AreRecordsWithin bound ss → AreRecordsWithin bound (but_newest_record ss)
rest-within bound [] all = tt
rest-within bound (s ∷ ss) all = (by s.records all.0, all.1)
  where
    by : (parts : List OldPart) → AllByRecursion (λ p. tick_behind p.old ≤ bound) parts → AllByRecursion (λ p. tick_behind p.old ≤ bound) (drop 1 parts)
    by [] all = tt
    by (p ∷ ps) all = all.1

put-next : (things : Objects Shape) (part : OldPart) (parts : List OldPart) → put_back things (part ∷ parts)
    ≡ put_back (set_cell things part.number part.cell part.old) parts
unfolding put_back
put-next things part parts = refl

put-none : (things : Objects Shape) → put_back things [] ≡ things
unfolding put_back
put-none things = refl

pub putting-next : (records oldest : ℕ) (from es mid new : List Entry) (before now left : Held) (part : OldPart)
    → IsPutting records oldest from es before now → AreWithoutGaps from before → Some part ≡ newest_record now.segments
    → left ≡ record now { segments = but_newest_record now.segments } → IsRising new
    → things_of mid ≡ set_cell (things_of es) part.number part.cell part.old
    → places_in mid ≡ with_place_stamp part.number part.cell part.stamp (places_in es) → length mid ≡ length es
    → ((bound : ℕ) → AreWithin bound (ticks_in es) → tick_behind part.old ≤ bound → AreWithin bound (ticks_in mid))
    → IsTidiedAt records oldest part.number (stored_of mid) (stored_of new) → length new ≡ length mid
    → IsPutting records oldest from new before left
putting-next records oldest from es mid new before now left part is gaps e moved rises things places size ticks tidied sized =
    subst (λ (h : Held). IsPutting records oldest from new before h) (sym moved) (record {
      rising = rises;
      things = (λ i. put_back ((tidied.objects ∙ things) i) rest)
          ∙ sym (put-next (things_of es) part rest) ∙ ap (put_back (things_of es)) (sym t.records) ∙ is.things;
      stamped = stamped-purged now.marks (stored_of mid) (stored_of new) ss gone stamped;
      distinct = rest-distinct now.segments is.distinct;
      len = sized ∙ size ∙ is.len;
      can = purged-put (stored_of mid) (stored_of new) ss gone
          (can-same (places_in es) (places_in mid) ss same-places (can-rest now.segments (places_in es) is.can));
      few = (let less = total-rest now.segments in let all = is.few in omega arith);
      since = since-rest now.marks oldest now.segments is.since;
      bounded = bounded;
      among = λ q there. is.among q (ap (is_recorded q) t.records ∙ later q (same q part.number) there);
      ticks = λ bound all within.
          let so = is.ticks bound all within in (
            subst (AreWithin bound) (sym tidied.ticks) (ticks bound so.0 (first-within bound part now.segments e so.1)),
            rest-within bound now.segments so.1,
          );
      journal = (λ i. record now { segments = t.same i }) ∙ is.journal;
    })
  where
    ss : List Segment
    ss = but_newest_record now.segments

    rest : List OldPart
    rest = newest_records ss

    t : IsTaken part now.segments
    t = taken part now.segments e

    can : CanBePut (places_in es) part
    can = can-first part now.segments (places_in es) e is.can

    stood : (u : ℕ) × (stamp_at (places_in es) part.number part.cell ≡ Some u)
    stood = the-stamp (places_in es) part.number part.cell can.placed

    same-places : HaveSamePlaces (places_in es) (places_in mid)
    same-places q d = (λ i. has_place (places i) q d)
        ∙ places-with_place_stamp (places_in es) part.number part.cell part.stamp stood.0 stood.1 q d

    stamped : AreStamped now.marks (stamp_at (places_in mid)) ss
    stamped =
        subst (λ m. AreStamped now.marks (stamp_at m) ss) (sym places)
        (stamped-put now.marks (places_in es) now.segments part stood.0 stood.1 (sym e) is.distinct is.stamped)

    gone : IsPurged (stored_of mid) (stored_of new) ss
    gone = purged records now.marks oldest part.number (stored_of mid) (stored_of new) ss (since-rest now.marks oldest now.segments is.since)
        stamped tidied

    later : (q : ℕ) (b : Bool) → is_recorded q rest ≡ true → (b || is_recorded q rest) ≡ true
    later q true there = refl
    later q false there = there

    -- an object whose last record was put back is as it was at the savepoint
    settled : is_recorded part.number rest ≡ false → IsWithoutGaps part.number (parts_under (things_of mid) part.number) ss
    settled none =
        gaps-more part.number (parts_under (things_of mid) part.number) ss none
        (subst (λ (x : Parts × List Segment). IsWithoutGaps part.number x.0 x.1) (λ i. (parts i, older i))
        (gaps part.number (is.among part.number (ap (is_recorded part.number) t.records
        ∙ ap (λ b. b || is_recorded part.number rest) (same-itself part.number)))))
      where
        parts : parts_under (put_back (things_of from) (newest_records before.segments)) part.number ≡ parts_under (things_of mid) part.number
        parts =
            ap (λ m. parts_under m part.number) (sym ((λ i. put_back (things i) rest)
            ∙ sym (put-next (things_of es) part rest) ∙ ap (put_back (things_of es)) (sym t.records) ∙ is.things))
            ∙ ap parts_of (unrecorded-back rest (things_of mid) part.number none)

        older : drop 1 before.segments ≡ drop 1 ss
        older =
            sym (drop-emptied before.segments) ∙ ap (λ (h : Held). drop 1 h.segments) (sym is.journal) ∙ drop-emptied now.segments
            ∙ sym (drop-rest now.segments)

    own-few : (own : Places) → get (places_in new) part.number ≡ Some own → is_recorded part.number rest ≡ false
        → IsBounded records (parts_under (things_of mid) part.number) own
    own-few own there none = by (get (places_in mid) part.number) refl
      where
        by : (o : Option Places) → get (places_in mid) part.number ≡ o → IsBounded records (parts_under (things_of mid) part.number) own
        by None f = absurd (true≢false (ap is_some (sym there ∙ tidied.none f)))
        by (Some was) f =
            let now_is = tidied.own was f in
            let same_own : now_is.0 ≡ own = cc in
            subst (IsBounded records (parts_under (things_of mid) part.number)) same_own
            (tidied-few records now.marks oldest part.number (parts_under (things_of mid) part.number) was now_is.0 ss
            (since-rest now.marks oldest now.segments is.since) stamped.serials
            (own-stamps now.marks part.number (places_in mid) was ss stamped f) (settled none)
            (let less = total-rest now.segments in let all = is.few in omega arith) now_is.2)

    bounded : AreBoundedBut records rest (stored_of new)
    bounded q own there = by (same q part.number) refl
      where
        mine : (b : Bool) → is_recorded part.number rest ≡ b → get (places_in new) part.number ≡ Some own
            → IsBounded records (parts_under (things_of new) part.number) own ⊎ (is_recorded part.number rest ≡ true)
        mine true f there = inr f
        mine false f there =
            inl (subst (λ m. IsBounded records (parts_under m part.number) own) (sym tidied.objects) (own-few own there f))

        others : (q ≡ part.number → ⊥) → same q part.number ≡ false
            → IsBounded records (parts_under (things_of es) q) own ⊎ (is_recorded q (newest_records now.segments) ≡ true)
            → IsBounded records (parts_under (things_of new) q) own ⊎ (is_recorded q rest ≡ true)
        others apart f (inl few) =
            inl (subst (λ (p : Parts). IsBounded records p own)
            (sym (ap (λ m. parts_under m q) (tidied.objects ∙ things) ∙ parts-other (things_of es) part.number part.cell part.old q apart)) few)
        others apart f (inr noted) =
            inr (sym (ap (λ b. b || is_recorded q rest) f) ∙ sym (ap (is_recorded q) t.records) ∙ noted)

        by : (b : Bool) → same q part.number ≡ b
            → IsBounded records (parts_under (things_of new) q) own ⊎ (is_recorded q rest ≡ true)
        by true f =
            let at = same-is q part.number f in
            subst (λ k. IsBounded records (parts_under (things_of new) k) own ⊎ (is_recorded k rest ≡ true)) (sym at)
            (mine (is_recorded part.number rest) refl (ap (get (places_in new)) (sym at) ∙ there))
        by false f =
            let apart : q ≡ part.number → ⊥ = λ at. true≢false (sym (ap (λ k. same k part.number) at ∙ same-itself part.number) ∙ f) in
            others apart f (is.bounded q own (sym (tidied.others q apart ∙ ap (λ m. get m q) places
            ∙ get-adjust nat_cmp_total (places_in es) part.number (λ o. insert o part.cell part.stamp) q
            ∙ λ i. cond (f i) (option_map (λ o. insert o part.cell part.stamp) (get (places_in es) q)) (get (places_in es) q)) ∙ there))

pub fewer : (part : OldPart) (now left : Held) → Some part ≡ newest_record now.segments → left ≡ record now { segments = but_newest_record now.segments }
    → length (newest_records left.segments) < length (newest_records now.segments)
fewer part now left e moved =
    let rest = ap (λ (h : Held). length (newest_records h.segments)) moved in
    let all = ap length (taken part now.segments e).records in
    omega arith

no-record : (ss : List Segment) → None ≡ newest_record ss → newest_records ss ≡ []
no-record [] e = refl
no-record (s ∷ ss) e = by s.records refl
  where
    by : (parts : List OldPart) → s.records ≡ parts → s.records ≡ []
    by [] is = is
    by (p ∷ ps) is = let some : newest_record (s ∷ ss) ≡ Some p = ap first is in cc

but-none : (ss : List Segment) → None ≡ newest_record ss → but_newest_record ss ≡ emptied ss
but-none [] e = refl
but-none (s ∷ ss) e = ap (λ (rs : List OldPart). record s { records = drop 1 rs } ∷ ss) (no-record (s ∷ ss) e)

pub put-things : (records oldest : ℕ) (from es : List Entry) (before now : Held) → IsPutting records oldest from es before now → None ≡ newest_record now.segments
    → things_of es ≡ put_back (things_of from) (newest_records before.segments)
put-things records oldest from es before now is e = sym (put-none (things_of es)) ∙ ap (put_back (things_of es)) (sym (no-record now.segments e)) ∙ is.things

pub put-journal : (records oldest : ℕ) (from es : List Entry) (before now left : Held) → IsPutting records oldest from es before now → None ≡ newest_record now.segments
    → left ≡ record now { segments = but_newest_record now.segments } → left ≡ record before { segments = emptied before.segments }
put-journal records oldest from es before now left is e moved = moved ∙ (λ i. record now { segments = but-none now.segments e i }) ∙ is.journal

pub put-stamped : (records oldest : ℕ) (from es : List Entry) (before now left : Held) → IsPutting records oldest from es before now → None ≡ newest_record now.segments
    → left ≡ record now { segments = but_newest_record now.segments } → AreStamped left.marks (stamp_at (places_in es)) left.segments
put-stamped records oldest from es before now left is e moved =
    subst (λ (h : Held). AreStamped h.marks (stamp_at (places_in es)) h.segments)
    (λ i. sym (moved ∙ λ k. record now { segments = (but-none now.segments e ∙ same now.segments e) k }) i) is.stamped
  where
    same : (ss : List Segment) → None ≡ newest_record ss → emptied ss ≡ ss
    same [] e = refl
    same (s ∷ ss) e = ap (λ (rs : List OldPart). record s { records = rs } ∷ ss) (sym (no-record (s ∷ ss) e))

-- then what is left can be put back, and each object has few places
pub put-can : (records oldest : ℕ) (from es : List Entry) (before now : Held) → IsPutting records oldest from es before now
    → CanEachBePut (places_in es) (drop 1 before.segments)
put-can records oldest from es before now is =
    subst (CanEachBePut (places_in es))
    (sym (drop-emptied now.segments) ∙ ap (λ (h : Held). drop 1 h.segments) is.journal ∙ drop-emptied before.segments)
    (tail now.segments is.can)
  where
    tail : (ss : List Segment) → CanEachBePut (places_in es) ss → CanEachBePut (places_in es) (drop 1 ss)
    tail [] can = tt
    tail (s ∷ ss) can = can.1

pub put-bounded : (records oldest : ℕ) (from es : List Entry) (before now : Held) → IsPutting records oldest from es before now
    → None ≡ newest_record now.segments → AreBounded records (stored_of es)
put-bounded records oldest from es before now is e q own there = by (is.bounded q own there)
  where
    by : IsBounded records (parts_under (things_of es) q) own ⊎ (is_recorded q (newest_records now.segments) ≡ true)
        → IsBounded records (parts_under (things_of es) q) own
    by (inl few) = few
    by (inr noted) = absurd (true≢false (sym noted ∙ ap (is_recorded q) (no-record now.segments e)))
