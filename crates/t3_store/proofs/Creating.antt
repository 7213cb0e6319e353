-- A creation: what stays true of a store.
use Rattle.std.proofs.Common.{◌≡◌, ◌∙◌, ap, sym, subst, refl, ℕ, ◌+◌, ◌<◌, ◌≤◌, ◌^◌, Bool, true, false, cond, ◌||◌, nat_lt, List, [], ◌∷◌, reverse, None, Some, is_some, true≢false, ltb-false, arith}
use Rattle.std.specs.Option.{option_map}
use Rattle.std.specs.Ordering.{nat_cmp}
use Rattle.std.specs.Cmp.{nat_cmp_total}
use Rattle.std.specs.FinMap.{FinMap, get, insert, len, len-insert, get-insert}
use Rattle.t3_undo.specs.Content.{Parts, Places, places_for}
use Rattle.t3_undo.specs.Objects.{Objects, Segment}
use Rattle.t3_undo.specs.Journal.{Held}
use Rattle.t3_undo.specs.declared.cell.Cell.{Cell}
use Rattle.t3_store.specs.Value.{Value, units_in, units_of}
use Rattle.t3_store.specs.Inner.Shapes.{Shape, Stored, values, value_of, has_place, has_place_in, HasZeroStamps}
use Rattle.t3_store.proofs.Stamped.{stamped-created}
use Rattle.t3_store.proofs.ZeroStamps.{zero-copy, all-zero-insert}
use Rattle.t3_store.specs.Inner.Store.{marks_of, IsSound, IsFront, saved_units, IsStore}
use Rattle.t3_store.specs.Inner.Whole.{supers_from, supers_of_both}
use Rattle.t3_store.specs.declared.limits.StoreLimits.{StoreLimits}
use Rattle.t3_store.proofs.Rows.{differs, same, same-is}
use Rattle.t3_store.proofs.MapValues.{get-values, values-insert, units_in-new}
use Rattle.t3_store.proofs.Marks.{marks-made}
use Rattle.t3_store.proofs.WholeMade.{HasSupers, whole-created, whole-made}
use Rattle.t3_store.proofs.KindsKept.{kinds-created, kinds-made}
use Rattle.t3_store.proofs.Saving.{sound-below}

-- a creation
pub not-full : (a b c d : ℕ) → (nat_lt a b || nat_lt c d) ≡ false → (b ≤ a) × (d ≤ c)
not-full a b c d e = by (nat_lt a b) refl e
  where
    by : (x : Bool) → nat_lt a b ≡ x → (x || nat_lt c d) ≡ false → (b ≤ a) × (d ≤ c)
    by true t e = absurd (true≢false e)
    by false t e = (ltb-false a b t, ltb-false c d e)

pub len-new : (m : FinMap nat_cmp Value) (n : ℕ) (v : Value) → get m n ≡ None → len (insert m n v) ≡ len m + 1
len-new m n v none = len-insert nat_cmp_total m n v ∙ ap (λ o. cond (is_some o) (len m) (len m + 1)) none

pub older-newest : (places : FinMap nat_cmp Places) (next : ℕ) (ss : List Segment) → IsSound places next ss → (q : Segment) (qs : List Segment) → ss ≡ q ∷ qs
    → q.next ≤ next
older-newest places next [] sound q qs e = cc
older-newest places next (s ∷ ss) sound q qs e = let same : s ≡ q = cc in subst (λ (x : Segment). x.next ≤ next) same sound.0

pub none-inserted : {X : Type 0} (m : FinMap nat_cmp X) (n q : ℕ) (x : X) → (q ≡ n → ⊥) → get (insert m n x) q ≡ get m q
none-inserted m n q x apart = get-insert nat_cmp_total m n x q ∙ ap (λ b. cond b (Some x) (get m q)) (differs q n apart)

kept-inserted : (places : FinMap nat_cmp Places) (n : ℕ) (own : Places) (q : ℕ) (c : Cell) → q < n → has_place places q c ≡ true
    → has_place (insert places n own) q c ≡ true
kept-inserted places n own q c h placed = ap (λ o. has_place_in o c) (none-inserted places n q own (λ e. omega arith)) ∙ placed

pub value-none : (m : Objects Shape) (n : ℕ) → get m n ≡ None → get (values m) n ≡ None
value-none m n e = get-values m n ∙ ap (option_map value_of) e

pub marks-created : (p : Stored) (next : ℕ) (ss : List Segment) (thing : Shape × Parts) → IsSound p.places next ss
    → marks_of (insert p.objects next thing) ss ≡ marks_of p.objects ss
marks-created p next ss thing sound = marks-made 0 ss p.objects next thing (older-newest p.places next ss sound)

pub persistent-created : (p t new : Stored) (next next_transient : ℕ) (limits : StoreLimits) (j : Held) (units : List ℕ) (room writes : ℕ)
    (thing : Shape × Parts) (own : Places) (tick : ℕ) → IsStore p t next next_transient limits j units room writes → next < 2 ^ 31
    → len (values p.objects) + len (values t.objects) + 1 ≤ limits.objects
    → units_in (values p.objects) + units_in (values t.objects) + units_of (value_of thing) ≤ limits.units
    → HasSupers (supers_from p.objects) thing
    → tick ≤ 1 → own ≡ places_for thing.1
    → new ≡ record { objects = insert p.objects next thing; places = insert p.places next own; ticks = insert p.ticks next tick }
    → IsStore new t (next + 1) next_transient limits j units room writes
persistent-created p t new next next_transient limits j units room writes thing own tick is low few little has young fresh changed =
    subst (λ (s : Stored). IsStore s t (next + 1) next_transient limits j units room writes) (sym changed) (record {
      bounded = is.bounded;
      records = is.records;
      savepoints = is.savepoints;
      numbered = record {
        persistent_from_one = none-inserted p.objects next 0 thing (λ e. omega (arith, is.numbered.next_from_one)) ∙ is.numbered.persistent_from_one;
        transient_from_one = is.numbered.transient_from_one;
        next_from_one = omega arith;
        persistent_below = λ q h. none-inserted p.objects next q thing (λ e. omega arith) ∙ is.numbered.persistent_below q (omega arith);
        transient_low = λ q h l. is.numbered.transient_low q (omega arith) l;
        transient_high = is.numbered.transient_high;
        next_fits = omega arith;
        transient_from = is.numbered.transient_from;
        transient_fits = is.numbered.transient_fits;
        distinct = λ q h. distinct q h (same q next) refl;
      };
      sound = sound-below p.places (insert p.places next own) next (next + 1) j.segments (kept-inserted p.places next own) (omega arith) is.sound;
      stamped = stamped-created j.marks next p.places own j.segments is.sound (subst HasZeroStamps (sym fresh) (zero-copy thing.1)) is.stamped;
      transient_stamps = is.transient_stamps;
      counted = record {
        objects = omega (arith, objects);
        persistent_units = omega (arith, sum);
        transient_units = is.counted.transient_units;
        copies = subst (λ ms. IsFront (saved_units ms) (reverse units)) (sym (marks-created p next j.segments thing is.sound)) is.counted.copies;
        each = is.counted.each;
        few = is.counted.few;
        fits = is.counted.fits;
      };
      few_writes = is.few_writes;
      whole = whole-created p.objects t.objects next next_transient p.places j.segments thing is.numbered (omega arith) is.sound has is.whole;
      kinds = kinds-created p t _ j.segments next writes tick thing is.kinds (older-newest p.places next j.segments is.sound) young refl refl;
    })
  where
    distinct : (q : ℕ) → is_some (get (insert p.objects next thing) q) ≡ true → (b : Bool) → same q next ≡ b → get t.objects q ≡ None
    distinct q h true e = is.numbered.transient_low q (let here = same-is q next e in omega arith) (let here = same-is q next e in omega arith)
    distinct q h false e =
        is.numbered.distinct q (sym (ap is_some (get-insert nat_cmp_total p.objects next thing q
        ∙ ap (λ b. cond b (Some thing) (get p.objects q)) e)) ∙ h)

    none : get (values p.objects) next ≡ None
    none = value-none p.objects next (is.numbered.persistent_below next (omega arith))

    objects : len (values (insert p.objects next thing)) ≡ len (values p.objects) + 1
    objects = ap len (values-insert p.objects next thing) ∙ len-new (values p.objects) next (value_of thing) none

    sum : units_in (values (insert p.objects next thing)) ≡ units_in (values p.objects) + units_of (value_of thing)
    sum = ap units_in (values-insert p.objects next thing) ∙ units_in-new (values p.objects) next (value_of thing) none

pub transient-created : (p t new : Stored) (next next_transient : ℕ) (limits : StoreLimits) (j : Held) (units : List ℕ) (room writes : ℕ)
    (thing : Shape × Parts) (own : Places) (tick : ℕ) → IsStore p t next next_transient limits j units room writes → next_transient < 2 ^ 32
    → len (values p.objects) + len (values t.objects) + 1 ≤ limits.objects
    → units_in (values p.objects) + units_in (values t.objects) + units_of (value_of thing) ≤ limits.units
    → HasSupers (supers_of_both p.objects t.objects) thing
    → tick ≤ 1 → own ≡ places_for thing.1
    → new ≡ record {
      objects = insert t.objects next_transient thing;
      places = insert t.places next_transient own;
      ticks = insert t.ticks next_transient tick;
    }
    → IsStore p new next (next_transient + 1) limits j units room writes
transient-created p t new next next_transient limits j units room writes thing own tick is low few little has young fresh changed =
    subst (λ (s : Stored). IsStore p s next (next_transient + 1) limits j units room writes) (sym changed) (record {
      bounded = is.bounded;
      records = is.records;
      savepoints = is.savepoints;
      numbered = record {
        persistent_from_one = is.numbered.persistent_from_one;
        transient_from_one = none-inserted t.objects next_transient 0 thing (λ e. omega (arith, is.numbered.transient_from))
            ∙ is.numbered.transient_from_one;
        next_from_one = is.numbered.next_from_one;
        persistent_below = is.numbered.persistent_below;
        transient_low = λ q h l. none-inserted t.objects next_transient q thing (λ e. omega (arith, is.numbered.transient_from))
            ∙ is.numbered.transient_low q h l;
        transient_high = λ q h. none-inserted t.objects next_transient q thing (λ e. omega arith) ∙ is.numbered.transient_high q (omega arith);
        next_fits = is.numbered.next_fits;
        transient_from = omega (arith, is.numbered.transient_from);
        transient_fits = omega arith;
        distinct = λ q h. none-inserted t.objects next_transient q thing (λ e. high q h e) ∙ is.numbered.distinct q h;
      };
      sound = is.sound;
      stamped = is.stamped;
      transient_stamps = all-zero-insert t.places next_transient own is.transient_stamps (subst HasZeroStamps (sym fresh) (zero-copy thing.1));
      counted = record {
        objects = omega (arith, objects);
        persistent_units = is.counted.persistent_units;
        transient_units = omega (arith, sum);
        copies = is.counted.copies;
        each = is.counted.each;
        few = is.counted.few;
        fits = is.counted.fits;
      };
      few_writes = is.few_writes;
      whole = whole-made p.objects t.objects next next_transient j.segments thing is.numbered has is.whole;
      kinds = kinds-made p t _ j.segments next_transient writes tick is.kinds young refl;
    })
  where
    high : (q : ℕ) → is_some (get p.objects q) ≡ true → q ≡ next_transient → ⊥
    high q h e = true≢false (sym h ∙ ap is_some (is.numbered.persistent_below q (omega (arith, is.numbered.next_fits, is.numbered.transient_from))))

    none : get (values t.objects) next_transient ≡ None
    none = value-none t.objects next_transient (is.numbered.transient_high next_transient (omega arith))

    objects : len (values (insert t.objects next_transient thing)) ≡ len (values t.objects) + 1
    objects = ap len (values-insert t.objects next_transient thing) ∙ len-new (values t.objects) next_transient (value_of thing) none

    sum : units_in (values (insert t.objects next_transient thing)) ≡ units_in (values t.objects) + units_of (value_of thing)
    sum = ap units_in (values-insert t.objects next_transient thing) ∙ units_in-new (values t.objects) next_transient (value_of thing) none
