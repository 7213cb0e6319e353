-- A new store: what is true of it.
use Rattle.std.proofs.Common.{◌≡◌, ◌∙◌, ap, sym, subst, refl, ℕ, ◌+◌, ◌<◌, ◌≤◌, ◌^◌, true, List, [], length, reverse, Option, None, Some, is_some, arith}
use Rattle.std.specs.List.{AllByRecursion}
use Rattle.std.specs.Option.{option_map}
use Rattle.std.specs.FinMap.{get, len}
use Rattle.t3_undo.specs.Content.{Parts}
use Rattle.t3_undo.specs.Objects.{Objects}
use Rattle.t3_undo.specs.Journal.{Held}
use Rattle.std.specs.Prelude.{option_and_then}
use Rattle.t3_store.specs.Value.{units_in, supers_of, Objects as Values}
use Rattle.t3_store.specs.Store.{either, AreLimits, AreBelow, started}
use Rattle.t3_store.specs.Inner.Shapes.{Shape, Stored, values, value_of, AreWithin, stamp_at, HaveZeroStamps}
use Rattle.t3_undo.specs.Stamps.{AreStamped}
use Rattle.t3_store.proofs.Stamped.{stamped-afresh}
use Rattle.t3_store.specs.Inner.Store.{marks_of, store_of, IsSound, AreNumbered, IsFront, saved_units, IsStore, AreKindsKept}
use Rattle.t3_store.specs.Whole.{IsWhole, supers_in, supers_among}
use Rattle.t3_store.specs.Inner.Whole.{supers_from, supers_of_both, AreWhole}
use Rattle.t3_store.specs.declared.limits.StoreLimits.{StoreLimits}
use Rattle.t3_store.proofs.Rows.{same}
use Rattle.t3_store.proofs.MapValues.{get-values}
use Rattle.t3_store.proofs.WholeStarted.{whole-started}
use Rattle.t3_store.proofs.WholeWritten.{supers-values, supers-both}
use Rattle.t3_store.proofs.KindsKept.{kinds-started}

-- a new store
pub unvalued : (m : Objects Shape) (o : Values) (q : ℕ) → values m ≡ o → get o q ≡ None → get m q ≡ None
unvalued m o q same e = by (get m q) (sym (get-values m q) ∙ (λ i. get (same i) q) ∙ e)
  where
    by : (x : Option (Shape × Parts)) → option_map value_of x ≡ None → x ≡ None
    by None e = refl
    by (Some x) e = cc

pub valued : (m : Objects Shape) (o : Values) (q : ℕ) → values m ≡ o → is_some (get m q) ≡ true → is_some (get o q) ≡ true
valued m o q same h = sym (ap is_some (sym (get-values m q) ∙ (λ i. get (same i) q))) ∙ some-valued (get m q) ∙ h
  where
    some-valued : (x : Option (Shape × Parts)) → is_some (option_map value_of x) ≡ is_some x
    some-valued None = refl
    some-valued (Some x) = refl

pub marks-bare : (m : Objects Shape) → marks_of m [] ≡ []
unfolding marks_of
marks-bare m = refl

pub started-kept : (p t : Stored) (first passing : Values) (next : ℕ) (limits : StoreLimits) (j : Held) (units : List ℕ) (room writes : ℕ)
    → values p.objects ≡ first → values t.objects ≡ passing → AreLimits limits → 0 < next → next ≤ 2 ^ 31 → AreBelow next first → AreBelow next passing
    → len first + len passing ≤ limits.objects → units_in first + units_in passing ≤ limits.units
    → j ≡ record { segments = []; marks = 0; record_limit = limits.records; mark_limit = limits.savepoints } → units ≡ [] → limits.savepoints ≤ room
    → get first 0 ≡ None → get passing 0 ≡ None → AreWithin (units_in first + 1) p.ticks → AreWithin (units_in passing + 1) t.ticks → HaveZeroStamps p.places → HaveZeroStamps t.places
    → writes ≡ units_in first + units_in passing → ((q : ℕ) → is_some (get first q) ≡ true → get passing q ≡ None) → IsWhole (supers_in first)
    → IsWhole (supers_among first passing) → IsStore p t next (2 ^ 31) limits j units room writes
started-kept p t first passing next limits j units room writes one other bounded high low below under few little begun none wide first_from passing_from first_ticks passing_ticks zeros others counts apart own both = record {
  bounded = bounded;
  records = ap (λ (h : Held). h.record_limit) begun;
  savepoints = ap (λ (h : Held). h.mark_limit) begun;
  numbered = numbered;
  sound = subst (λ (h : Held). IsSound p.places next h.segments) (sym begun) tt;
  stamped = subst (λ (h : Held). AreStamped h.marks (stamp_at p.places) h.segments) (sym begun) (stamped-afresh 0 p.places zeros);
  transient_stamps = others;
  counted = record {
    objects = (let a = ap len one in let b = ap len other in omega arith);
    persistent_units = (let a = ap units_in one in omega arith);
    transient_units = (let b = ap units_in other in omega arith);
    copies = subst (λ ms. IsFront (saved_units ms) (reverse units))
        (sym (ap (λ (h : Held). marks_of p.objects h.segments) begun ∙ marks-bare p.objects)) (record { rest = reverse units; is = refl });
    each = subst (λ (us : List ℕ). AllByRecursion (λ x. x ≤ limits.units) (reverse us)) (sym none) tt;
    few = (let size = ap length none in omega arith);
    fits = wide;
  };
  few_writes = omega (arith, bounded.units);
  whole = subst (λ (h : Held). AreWhole (supers_from p.objects) (supers_of_both p.objects t.objects) next (2 ^ 31) h.segments) (sym begun)
      (whole-started p.objects t.objects next (2 ^ 31) (supers_in first) (supers_among first passing) numbered
      (λ q. (λ i. option_and_then supers_of (get (sym one i) q)) ∙ supers-values p.objects q)
      (λ q. (λ i. option_and_then supers_of (either (get (sym one i) q) (get (sym other i) q))) ∙ supers-both p.objects t.objects q) own both);
  kinds = subst (λ (h : Held). AreKindsKept p t h.segments writes) (sym begun)
      (kinds-started p t (units_in first) (units_in passing) writes first_ticks passing_ticks counts);
}
  where
    numbered : AreNumbered p.objects t.objects next (2 ^ 31)
    numbered = record {
      persistent_from_one = unvalued p.objects first 0 one first_from;
      transient_from_one = unvalued t.objects passing 0 other passing_from;
      next_from_one = omega arith;
      persistent_below = λ q h. unvalued p.objects first q one (below q h);
      transient_low = λ q h l. unvalued t.objects passing q other (under q h);
      transient_high = λ q h. unvalued t.objects passing q other (under q (omega arith));
      next_fits = low;
      transient_from = omega arith;
      transient_fits = omega arith;
      distinct = λ q h. unvalued t.objects passing q other (apart q (valued p.objects first q one h));
    }

pub started-view : (p t : Stored) (first passing : Values) (next : ℕ) (limits : StoreLimits) (j : Held) → values p.objects ≡ first
    → values t.objects ≡ passing → j ≡ record { segments = []; marks = 0; record_limit = limits.records; mark_limit = limits.savepoints }
    → store_of p.objects t.objects next (2 ^ 31) limits j.segments ≡ started limits first passing next
started-view p t first passing next limits j one other begun = λ i. record {
  persistent = one i;
  transient = other i;
  next = next;
  next_transient = 2 ^ 31;
  limits = limits;
  marks = (ap (λ (h : Held). marks_of p.objects h.segments) begun ∙ marks-bare p.objects) i;
}
