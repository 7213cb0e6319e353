-- A state in place of the persistent objects, and a copy of them: what stays true of a store.
use Rattle.std.proofs.Common.{◌≡◌, ◌∙◌, ap, sym, subst, refl, ℕ, ◌+◌, ◌<◌, ◌≤◌, ◌^◌, Bool, true, false, nat_lt, List, [], length, reverse, None, is_some, true≢false, ltb-true, ltb-false, arith}
use Rattle.std.specs.List.{AllByRecursion}
use Rattle.std.specs.FinMap.{get, len}
use Rattle.t3_undo.specs.Journal.{Held}
use Rattle.t3_store.specs.Value.{Objects as Values, units_in}
use Rattle.t3_store.specs.Store.{AreBelow}
use Rattle.t3_store.specs.Whole.{AreApart, IsWhole, supers_in}
use Rattle.t3_store.specs.Inner.Shapes.{Stored, values, AreWithin, HaveZeroStamps}
use Rattle.t3_store.specs.Inner.Bounded.{HaveFreshPlaces}
use Rattle.t3_store.proofs.Stamped.{stamped-afresh}
use Rattle.t3_store.specs.Inner.Store.{AreNumbered, IsFront, saved_units, IsStore, IsPersistent}
use Rattle.t3_store.specs.Inner.Whole.{supers_from}
use Rattle.t3_store.specs.declared.limits.StoreLimits.{StoreLimits}
use Rattle.t3_store.proofs.Creating.{value-none}
use Rattle.t3_store.proofs.Keeping.{front-none}
use Rattle.t3_store.proofs.Starting.{unvalued, valued, marks-bare}
use Rattle.t3_store.proofs.Ticks.{within-more}
use Rattle.t3_store.proofs.WholeReplaced.{whole-replaced}
use Rattle.t3_store.proofs.WholeWritten.{alike, supers-values}

pub replaced-kept : (p t new : Stored) (state : Values) (next next_transient more : ℕ) (limits : StoreLimits) (j : Held) (units none : List ℕ)
    (room wide writes high : ℕ) → IsStore p t next next_transient limits j units room writes → values new.objects ≡ state
    → AreApart state (values t.objects) → IsWhole (supers_in state) → AreBelow more state → next ≤ more → more ≤ 2 ^ 31 → get state 0 ≡ None
    → len state + len (values t.objects) ≤ limits.objects → units_in state + units_in (values t.objects) ≤ limits.units
    → AreWithin (units_in state + 1) new.ticks → HaveZeroStamps new.places → writes ≤ high → units_in state ≤ high → high ≤ 2 ^ 63 → none ≡ [] → wide ≡ room
    → IsStore new t more next_transient limits (record j { segments = [] }) none wide high
replaced-kept p t new state next next_transient more limits j units none room wide writes high is same apart whole below up low from few little ticks
    zeros risen counted bound empty kept = record {
      bounded = is.bounded;
      records = is.records;
      savepoints = is.savepoints;
      numbered = numbered;
      sound = tt;
      stamped = stamped-afresh j.marks new.places zeros;
      transient_stamps = is.transient_stamps;
      counted = record {
        objects = (let size = ap len same in omega arith);
        persistent_units = (let sum = ap units_in same in omega arith);
        transient_units = is.counted.transient_units;
        copies = subst (λ ms. IsFront (saved_units ms) (reverse none)) (sym (marks-bare new.objects)) (front-none (reverse none));
        each = subst (λ (us : List ℕ). AllByRecursion (λ x. x ≤ limits.units) (reverse us)) (sym empty) tt;
        few = (let size = ap length empty in omega arith);
        fits = (let wide_enough = is.counted.fits in omega arith);
      };
      few_writes = bound;
      whole = whole-replaced p.objects new.objects t.objects next more next_transient j.segments
          (subst IsWhole (alike (supers_in (values new.objects)) (supers_from new.objects) (supers-values new.objects))
          (subst (λ o. IsWhole (supers_in o)) (sym same) whole))
          is.numbered.distinct lower up (omega (arith, is.numbered.transient_from)) is.whole;
      kinds = record {
        valid = tt;
        persistent_ticks = within-more (units_in state + 1) (high + 1) new.ticks (omega arith) ticks;
        transient_ticks = within-more (writes + 1) (high + 1) t.ticks (omega arith) is.kinds.transient_ticks;
        records = tt;
      };
    }
  where
    numbered : AreNumbered new.objects t.objects more next_transient
    numbered = record {
      persistent_from_one = unvalued new.objects state 0 same from;
      transient_from_one = is.numbered.transient_from_one;
      next_from_one = omega (arith, is.numbered.next_from_one);
      persistent_below = λ q h. unvalued new.objects state q same (below q h);
      transient_low = λ q h l. is.numbered.transient_low q (omega arith) l;
      transient_high = is.numbered.transient_high;
      next_fits = low;
      transient_from = is.numbered.transient_from;
      transient_fits = is.numbered.transient_fits;
      distinct = λ q h. unvalued t.objects (values t.objects) q refl (apart q (valued new.objects state q same h));
    }

    lower : (q : ℕ) → is_some (get new.objects q) ≡ true → q < more
    lower q some = by (nat_lt q more) refl
      where
        by : (b : Bool) → nat_lt q more ≡ b → q < more
        by true e = ltb-true q more e
        by false e =
            absurd (true≢false (sym some ∙ ap is_some (unvalued new.objects state q same (below q (ltb-false q more e)))))

-- the persistent objects of a store have numbers below 2^31
pub persistent-below : (p : Stored) (next : ℕ) → ((q : ℕ) → next ≤ q → get p.objects q ≡ None) → next ≤ 2 ^ 31
    → AreBelow (2 ^ 31) (values p.objects)
persistent-below p next below low = λ q h. value-none p.objects q (below q (omega arith))

-- a copy of the persistent objects
pub persistent-copied : (p copy : Stored) (next : ℕ) → values copy.objects ≡ values p.objects → get p.objects 0 ≡ None
    → ((q : ℕ) → next ≤ q → get p.objects q ≡ None) → next ≤ 2 ^ 31 → len (values p.objects) ≤ 1048576 → units_in (values p.objects) ≤ 4194304
    → AreWithin (units_in (values p.objects) + 1) copy.ticks → HaveFreshPlaces copy → IsPersistent copy
persistent-copied p copy next same from below low few little ticks needed = record {
  from_one = (λ i. get (same i) 0) ∙ value-none p.objects 0 from;
  numbered = λ q h. (λ i. get (same i) q) ∙ persistent-below p next below low q h;
  few = (let size = ap len same in omega arith);
  few_units = (let sum = ap units_in same in omega arith);
  ticks = subst (λ (n : ℕ). AreWithin (n + 1) copy.ticks) (sym (ap units_in same)) ticks;
  fresh_places = needed;
}
