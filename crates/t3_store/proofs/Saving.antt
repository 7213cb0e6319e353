-- A savepoint and an undo: what stays true of a store.
use Rattle.std.proofs.Common.{◌≡◌, ◌∙◌, ap, sym, subst, refl, ℕ, zero, suc, ◌+◌, ◌-◌, ◌<◌, ◌≤◌, Bool, true, false, cond, nat_lt, List, [], ◌∷◌, ◌++◌, length, take, drop, reverse, Option, None, Some, is_some, true≢false, ltb-true, lt-ltb, arith}
use Rattle.std.specs.List.{AllByRecursion}
use Rattle.std.specs.Ordering.{nat_cmp, eq_by_cmp}
use Rattle.std.specs.Cmp.{nat_cmp_total}
use Rattle.std.specs.FinMap.{FinMap, get, len, get-retain_keys, nat_cmp-IsAntisymmetric}
use Rattle.std.proofs.lemmas.List.{length-reverse}
use Rattle.t3_undo.specs.Content.{Parts, Places}
use Rattle.t3_undo.specs.Present.{Present}
use Rattle.t3_undo.specs.Objects.{Objects, OldPart, Segment, before, put_back, with_part}
use Rattle.t3_undo.specs.Journal.{Held, newest_next}
use Rattle.t3_undo.specs.UndoLaw as law
use Rattle.t3_undo.specs.declared.cell.Cell.{Cell}
use Rattle.t3_undo.specs.Objects as journaled
use Rattle.t3_undo.specs.Stamps.{AreStamped}
use Rattle.t3_undo.proofs.PuttingBack.{get-before}
use Rattle.t3_undo.proofs.AllStamps.{stamped-marked}
use Rattle.t3_store.specs.Value.{units_in}
use Rattle.t3_store.specs.Store.{Mark}
use Rattle.t3_store.specs.Inner.Shapes.{Shape, Stored, values, has_place, has_place_in, stamp_at, places_below, AreWithin}
use Rattle.t3_store.specs.Inner.Valid.{AreValid}
use Rattle.t3_store.specs.Inner.Store.{marks_of, CanAllBePut, IsSound, IsFront, saved_units, IsStore, AreRecordsWithin}
use Rattle.t3_store.specs.Inner.Whole.{supers_from, supers_of_both, AreWhole}
use Rattle.t3_store.specs.declared.limits.StoreLimits.{StoreLimits}
use Rattle.t3_store.proofs.Rows.{same}
use Rattle.t3_store.proofs.Marks.{marks-saved, marks-take}
use Rattle.t3_undo.proofs.Maps.{get-adjust}
use Rattle.t3_store.proofs.Keeping.{some-set, front-take, front-cons, front-drop}
use Rattle.t3_store.proofs.WholeUndone.{whole-undone, whole-saved}
use Rattle.t3_store.proofs.KindsKept.{kinds-saved, kinds-undone}

-- what can be put back, where places of older objects are kept
put-below : (old new : FinMap nat_cmp Places) (top : ℕ) (parts : List OldPart)
    → ((q : ℕ) (c : Cell) → q < top → has_place old q c ≡ true → has_place new q c ≡ true)
    → AllByRecursion (λ part. part.number < top) parts → CanAllBePut old parts → CanAllBePut new parts
put-below old new top [] kept lower can = tt
put-below old new top (part ∷ parts) kept lower can = (
  record { placed = kept part.number part.cell lower.0 can.0.placed; formed = can.0.formed },
  put-below old new top parts kept lower.1 can.1,
)

pub sound-below : (old new : FinMap nat_cmp Places) (top more : ℕ) (ss : List Segment)
    → ((q : ℕ) (c : Cell) → q < top → has_place old q c ≡ true → has_place new q c ≡ true) → top ≤ more → IsSound old top ss
    → IsSound new more ss
sound-below old new top more [] kept h sound = tt
sound-below old new top more (s ∷ ss) kept h sound = (
  omega (arith, sound.0),
  sound.1,
  put-below old new s.next s.records (λ q c l. kept q c (omega (arith, sound.0))) sound.1 sound.2,
  sound-below old new s.next s.next ss (λ q c l. kept q c (omega (arith, sound.0))) (omega arith) sound.3,
)

sound-take : (places : FinMap nat_cmp Places) (top k : ℕ) (ss : List Segment) → IsSound places top ss → IsSound places top (take k ss)
sound-take places top zero ss sound = tt
sound-take places top (suc k) [] sound = tt
sound-take places top (suc k) (s ∷ ss) sound = (sound.0, sound.1, sound.2, sound-take places s.next k ss sound.3)

all-take : (bound k : ℕ) (xs : List ℕ) → AllByRecursion (λ x. x ≤ bound) xs → AllByRecursion (λ x. x ≤ bound) (take k xs)
all-take bound zero xs all = tt
all-take bound (suc k) [] all = tt
all-take bound (suc k) (x ∷ xs) all = (all.0, all-take bound k xs all.1)

map-take : (k : ℕ) (ms : List Mark) → saved_units (take k ms) ≡ take k (saved_units ms)
map-take zero ms = refl
map-take (suc k) [] = refl
map-take (suc k) (m ∷ ms) = ap (λ us. units_in m.copy ∷ us) (map-take k ms)

-- the segments once a savepoint is made
abbrev pub saved_segments : Held → ℕ → List Segment
saved_segments j next = record { serial = j.marks + 1; next = next; records = [] } ∷ take (j.mark_limit - 1) j.segments

pub saved-kept : (p t : Stored) (next next_transient : ℕ) (limits : StoreLimits) (j : Held) (units more : List ℕ) (room wide writes count : ℕ)
    → IsStore p t next next_transient limits j units room writes → AreValid p.objects → count ≡ units_in (values p.objects)
    → reverse more ≡ count ∷ take (limits.savepoints - 1) (reverse units) → length more ≤ limits.savepoints → wide ≡ room
    → IsStore p t next next_transient limits
    (record j { segments = saved_segments j next; marks = j.marks + 1 }) more wide writes
saved-kept p t next next_transient limits j units more room wide writes count is valid counts pushed few same = record {
  bounded = is.bounded;
  records = is.records;
  savepoints = is.savepoints;
  numbered = is.numbered;
  sound = (omega arith, tt, tt, sound-take p.places next (j.mark_limit - 1) j.segments is.sound);
  stamped = stamped-marked j.marks (j.mark_limit - 1) next (stamp_at p.places) j.segments is.stamped;
  transient_stamps = is.transient_stamps;
  counted = record {
    objects = is.counted.objects;
    persistent_units = is.counted.persistent_units;
    transient_units = is.counted.transient_units;
    copies = subst (λ us. IsFront us (reverse more)) (sym saved) (subst (λ us. IsFront (count ∷ take (limits.savepoints - 1) (saved_units marks)) us)
        (sym pushed) (front-cons count _ _ (front-take (limits.savepoints - 1) (saved_units marks) (reverse units) is.counted.copies)));
    each = subst (AllByRecursion (λ x. x ≤ limits.units)) (sym pushed)
        (omega (arith, is.counted.persistent_units), all-take limits.units (limits.savepoints - 1) (reverse units) is.counted.each);
    few = few;
    fits = omega (arith, is.counted.fits);
  };
  few_writes = is.few_writes;
  whole = whole-saved p.objects t.objects (j.marks + 1) next next_transient (j.mark_limit - 1) j.segments is.numbered is.whole;
  kinds = kinds-saved p t j.segments (j.marks + 1) next (j.mark_limit - 1) writes is.kinds valid is.numbered.persistent_below;
}
  where
    marks : List Mark
    marks = marks_of p.objects j.segments

    saved : saved_units (marks_of p.objects (saved_segments j next))
        ≡ count ∷ take (limits.savepoints - 1) (saved_units (marks_of p.objects j.segments))
    saved =
        ap saved_units (marks-saved (j.marks + 1) next (take (j.mark_limit - 1) j.segments) p.objects is.numbered.persistent_below)
        ∙ (λ i. sym counts i ∷ saved_units (marks-take (j.mark_limit - 1) j.segments p.objects i))
        ∙ ap (λ us. count ∷ us) (map-take (j.mark_limit - 1) (marks_of p.objects j.segments))
        ∙ λ i. count ∷ take (is.savepoints i - 1) (saved_units (marks_of p.objects j.segments))

-- an undo
some-units : (us ws : List ℕ) (x : ℕ) → IsFront (x ∷ us) (reverse ws) → 0 < length ws
some-units us ws x front =
    let whole = ap length front.is in
    let size = length-reverse ws in
    omega arith

pub has-units : (m : Objects Shape) (ss : List Segment) (units : List ℕ) (next : ℕ) → newest_next ss ≡ Some next
    → IsFront (saved_units (marks_of m ss)) (reverse units) → 0 < length units
unfolding marks_of
has-units m [] units next e front = cc
has-units m (s ∷ ss) units next e front = some-units (saved_units (marks_of (before m s) ss)) units _ front

pub popped-units : (m : Objects Shape) (ss : List Segment) (units rest : List ℕ) (next count : ℕ) → newest_next ss ≡ Some next
    → IsFront (saved_units (marks_of m ss)) (reverse units) → reverse units ≡ count ∷ reverse rest
    → count ≡ units_in (values (law.undone m ss))
unfolding marks_of
popped-units m [] units rest next count e front popped = cc
popped-units m (s ∷ ss) units rest next count e front popped =
    let both : count ∷ reverse rest ≡ units_in (values (before m s)) ∷ (saved_units (marks_of (before m s) ss) ++ front.rest) = sym popped ∙ front.is in
    cc

none-undone : (m : Objects Shape) (ss : List Segment) (next : ℕ) (places : FinMap nat_cmp Places) → IsSound places next ss
    → ((q : ℕ) → next ≤ q → get m q ≡ None) → (q : ℕ) → next ≤ q → get (law.undone m ss) q ≡ None
none-undone m [] next places sound all q h = all q h
none-undone m (s ∷ ss) next places sound all q h = get-before s m q ∙ by (nat_lt q s.next) refl
  where
    by : (b : Bool) → nat_lt q s.next ≡ b → cond b (get (put_back m s.records) q) None ≡ None
    by true t = absurd (omega (arith, ltb-true q s.next t, sound.0))
    by false t = refl

adjusted-some : (m : Objects Shape) (n : ℕ) (c : Cell) (o : Option Present) (q : ℕ) → is_some (get (journaled.set_cell m n c o) q) ≡ is_some (get m q)
adjusted-some m n c o q = ap is_some (get-adjust nat_cmp_total m n (with_part c o) q) ∙ some-set (eq_by_cmp nat_cmp q n) (with_part c o) (get m q)

some-put : (rs : List OldPart) (m : Objects Shape) (q : ℕ) → is_some (get (put_back m rs) q) ≡ is_some (get m q)
unfolding put_back
some-put [] m q = refl
some-put (r ∷ rs) m q =
    some-put rs (journaled.set_cell m r.number r.cell r.old) q ∙ adjusted-some m r.number r.cell r.old q

cond-some : {X : Type 0} (b : Bool) (x : Option X) → is_some (cond b x None) ≡ true → is_some x ≡ true
cond-some true x e = e
cond-some false x e = cc

some-undone : (m : Objects Shape) (ss : List Segment) (q : ℕ) → is_some (get (law.undone m ss) q) ≡ true → is_some (get m q) ≡ true
some-undone m [] q e = e
some-undone m (s ∷ ss) q e =
    sym (some-put s.records m q) ∙ cond-some (nat_lt q s.next) (get (put_back m s.records) q) (sym (ap is_some (get-before s m q)) ∙ e)

nothing-undone : (m : Objects Shape) (ss : List Segment) (q : ℕ) → get m q ≡ None → get (law.undone m ss) q ≡ None
nothing-undone m ss q none = by (get (law.undone m ss) q) refl
  where
    by : (o : Option (Shape × Parts)) → get (law.undone m ss) q ≡ o → o ≡ None
    by None e = refl
    by (Some x) e = absurd (true≢false (sym (some-undone m ss q (ap is_some e)) ∙ ap is_some none))

pub kept-below : (places : FinMap nat_cmp Places) (next q : ℕ) (c : Cell) → q < next → has_place places q c ≡ true
    → has_place (places_below next places) q c ≡ true
kept-below places next q c h placed =
    ap (λ o. has_place_in o c) (get-retain_keys places (λ number. nat_lt number next) q
    (λ x t. ap (λ n. nat_lt n next) (sym (nat_cmp-IsAntisymmetric q x t)))
    ∙ ap (λ b. cond b (get places q) None) (lt-ltb q next h)) ∙ placed

front-undone : (m : Objects Shape) (ss : List Segment) (units rest : List ℕ) (count next : ℕ) → newest_next ss ≡ Some next
    → reverse units ≡ count ∷ reverse rest
    → IsFront (saved_units (marks_of m ss)) (reverse units) → IsFront (saved_units (marks_of (law.undone m ss) (drop 1 ss))) (reverse rest)
unfolding marks_of
front-undone m [] units rest count next e popped front = cc
front-undone m (s ∷ ss) units rest count next e popped front =
    subst (λ us. IsFront (saved_units (marks_of (before m s) ss)) us) (ap (drop 1) popped)
    (front-drop (units_in (values (before m s))) (saved_units (marks_of (before m s) ss)) (reverse units) front)

pub undone-kept : (p t new : Stored) (next next_transient : ℕ) (limits : StoreLimits) (j : Held) (units rest : List ℕ)
    (room wide writes count newest : ℕ) → IsStore p t next next_transient limits j units room writes → newest_next j.segments ≡ Some newest
    → reverse units ≡ count ∷ reverse rest → length rest ≤ length units → wide ≡ room
    → new.objects ≡ law.undone p.objects j.segments → IsSound new.places next (drop 1 j.segments)
    → AreStamped j.marks (stamp_at new.places) (drop 1 j.segments)
    → ((bound : ℕ) → AreWithin bound p.ticks → AreRecordsWithin bound j.segments → AreWithin bound new.ticks)
    → len (values new.objects) ≤ len (values p.objects)
    → IsStore new t next next_transient limits (record j { segments = drop 1 j.segments }) rest wide writes
undone-kept p t new next next_transient limits j units rest room wide writes count newest is held popped fewer same objects sound stamped ticks less = record {
  bounded = is.bounded;
  records = is.records;
  savepoints = is.savepoints;
  numbered = record {
    persistent_from_one = ap (λ m. get m 0) objects ∙ nothing-undone p.objects j.segments 0 is.numbered.persistent_from_one;
    transient_from_one = is.numbered.transient_from_one;
    next_from_one = is.numbered.next_from_one;
    persistent_below = λ q h. ap (λ m. get m q) objects
        ∙ none-undone p.objects j.segments next p.places is.sound is.numbered.persistent_below q h;
    transient_low = is.numbered.transient_low;
    transient_high = is.numbered.transient_high;
    next_fits = is.numbered.next_fits;
    transient_from = is.numbered.transient_from;
    transient_fits = is.numbered.transient_fits;
    distinct = λ q h. is.numbered.distinct q (some-undone p.objects j.segments q (sym (ap (λ m. is_some (get m q)) objects) ∙ h));
  };
  sound = sound;
  stamped = stamped;
  transient_stamps = is.transient_stamps;
  counted = record {
    objects = omega (arith, is.counted.objects);
    persistent_units = omega (arith, one.0, counts);
    transient_units = is.counted.transient_units;
    copies = subst (λ m. IsFront (saved_units (marks_of m (drop 1 j.segments))) (reverse rest)) (sym objects)
        (front-undone p.objects j.segments units rest count newest held popped is.counted.copies);
    each = one.1;
    few = omega (arith, is.counted.few);
    fits = omega (arith, is.counted.fits);
  };
  few_writes = is.few_writes;
  whole = subst (λ m. AreWhole (supers_from m) (supers_of_both m t.objects) next next_transient (drop 1 j.segments))
      (sym objects) (whole-undone p.objects t.objects next next_transient newest j.segments is.numbered.distinct held is.whole);
  kinds = kinds-undone p t new j.segments writes is.kinds objects ticks;
}
  where
    one : AllByRecursion (λ x. x ≤ limits.units) (count ∷ reverse rest)
    one = subst (AllByRecursion (λ x. x ≤ limits.units)) popped is.counted.each

    counts : count ≡ units_in (values new.objects)
    counts = popped-units p.objects j.segments units rest newest count held is.counted.copies popped
        ∙ ap (λ (m : Objects Shape). units_in (values m)) (sym objects)
