-- Properties by rising number, and the maps that they make.
use Rattle.std.proofs.Common.{◌≡◌, ℕ, zero, suc, ◌<◌, ◌≤◌, Bool, true, false, ◌&&◌, List, [], ◌∷◌, map, length, drop, get_or, ◌+◌, add-one, IsTrue, refl, sym, ap, subst, ◌∙◌, arith}
use Rattle.std.specs.Prelude.{nat_lt, nat_eq}
use Rattle.std.specs.FinMap.{entries, from_entries, is_sorted}
use Rattle.std.specs.FinMap.Entries.{below_all}
use Rattle.std.specs.Ordering.{nat_cmp, is_lt}
use Rattle.std.specs.List.{AllByRecursion, IsDistinct, flat_map}
use Rattle.std.proofs.lemmas.List.Folds.{flat_map-map}
use Rattle.std.proofs.lemmas.Bool.{ltb-true, lt-ltb, le-ltb, eqb-true}
use Rattle.std.proofs.lemmas.List.{drop_all}
use Rattle.t3_holder.specs.declared.holder.Holder.{Holder}
use Rattle.t3_tadsobj.specs.declared.props.PropValue.{PropValue}
use Rattle.t3_tadsobj.specs.Props.{pair_of}
use Rattle.t3_store.specs.Value.{new_value}
use Rattle.t3_store.specs.declared.new_object.NewObject.{NewObject}
use Rattle.t3_store.specs.declared.new_object.NewObject.TheVariants as new
use Rattle.t3_snapshot.specs.State.{named_by, named_in}
use Rattle.t3_snapshot.specs.Building.{AreRising, MakesRisingProps}
use Rattle.t3_snapshot.specs.Inner.Reading.{are_rising}
use Rattle.t3_snapshot.proofs.Leaves.{both_true, not_true}
use Rattle.t3_snapshot.proofs.Sorted.{and_parts, both_parts, lt_is, all_below, sorted_are}

-- a property of a pair
abbrev pub prop_value : ℕ × Holder → PropValue
prop_value e = record { number = e.0; value = e.1 }

pub rising_from : (last : ℕ) (props : List PropValue) → are_rising last props ≡ true → AreRising last props
rising_from last [] e = tt
rising_from last (prop ∷ props) e =
    let h = both_true (nat_lt last prop.number) (are_rising prop.number props) e in
    (ltb-true _ _ h.0, rising_from prop.number props h.1)

-- each number is above this one
rising_above : (least last : ℕ) (props : List PropValue) → least ≤ last → AreRising last props
    → IsTrue (below_all nat_cmp least (map pair_of props))
rising_above least last [] le rising = refl
rising_above least last (prop ∷ props) le rising =
    both_parts (is_lt (nat_cmp least prop.number)) (below_all nat_cmp least (map pair_of props))
    (lt_is least prop.number (omega (arith, rising.0)))
    (rising_above least prop.number props (omega (arith, rising.0)) rising.1)

rising_sorted : (last : ℕ) (props : List PropValue) → AreRising last props → IsTrue (is_sorted nat_cmp (map pair_of props))
rising_sorted last [] rising = refl
rising_sorted last (prop ∷ props) rising =
    both_parts (below_all nat_cmp prop.number (map pair_of props)) (is_sorted nat_cmp (map pair_of props))
    (rising_above prop.number prop.number props (omega arith) rising.1) (rising_sorted prop.number props rising.1)

-- the entries of the map of rising properties are they themselves
pub pairs_are : (last : ℕ) (props : List PropValue) → AreRising last props
    → entries (from_entries {R = nat_cmp} (map pair_of props)) ≡ map pair_of props
pairs_are last props rising = sorted_are (map pair_of props) (rising_sorted last props rising)

-- entries in order rise
pub rises_so : (last : ℕ) (es : List (ℕ × Holder)) → AllByRecursion (λ e. last < e.0) es → IsTrue (is_sorted nat_cmp es)
    → are_rising last (map prop_value es) ≡ true
rises_so last [] above sorted = refl
rises_so last (e ∷ es) above sorted =
    let p = and_parts (below_all nat_cmp e.0 es) (is_sorted nat_cmp es) sorted in
    ap (λ b. b && are_rising e.0 (map prop_value es)) (lt-ltb last e.0 above.0) ∙ rises_so e.0 es (all_below e.0 es p.0) p.1

-- rising numbers are distinct
pub rising_distinct : (last : ℕ) (props : List PropValue) → AreRising last props → IsDistinct nat_eq (map (λ prop. prop.number) props)
unfolding IsDistinct
rising_distinct last [] rising = tt
rising_distinct last (prop ∷ props) rising =
    (apart prop.number prop.number props (omega arith) rising.1, rising_distinct prop.number props rising.1)
  where
    apart : (n last : ℕ) (props : List PropValue) → n ≤ last → AreRising last props
        → AllByRecursion (λ m. nat_eq n m ≡ false) (map (λ prop. prop.number) props)
    apart n last [] le rising = tt
    apart n last (prop ∷ props) le rising =
        (not_equal n prop.number (omega (arith, rising.0)), apart n prop.number props (omega (arith, rising.0)) rising.1)
      where
        not_equal : (n m : ℕ) → n < m → nat_eq n m ≡ false
        not_equal n m lt = not_true (nat_eq n m) (λ e. let same = eqb-true n m e in absurd (omega arith))

-- ---- a look at each property

rising_at : (i last : ℕ) (props : List PropValue) (d : PropValue) → i < length props
    → are_rising last (drop i props) ≡ nat_lt last (get_or props i d).number && are_rising (get_or props i d).number (drop (suc i) props)
rising_at i last [] d lt = absurd (omega arith)
rising_at zero last (prop ∷ props) d lt = refl
rising_at (suc i) last (prop ∷ props) d lt = rising_at i last props d (omega arith)

pub not_rising : (i last : ℕ) (props : List PropValue) (d : PropValue) (all : Bool) → i < length props
    → are_rising last (drop i props) ≡ all
    → (get_or props i d).number ≤ last → false ≡ all
not_rising i last props d all lt so_far le =
    sym (ap (λ b. b && are_rising (get_or props i d).number (drop (suc i) props)) (le-ltb last (get_or props i d).number le))
    ∙ sym (rising_at i last props d lt) ∙ so_far

pub still_rising : (i last : ℕ) (props : List PropValue) (d : PropValue) (all : Bool) → i < length props
    → are_rising last (drop i props) ≡ all
    → last < (get_or props i d).number → are_rising (get_or props i d).number (drop (i + 1) props) ≡ all
still_rising i last props d all lt so_far above =
    rw add-one (sym (ap (λ b. b && are_rising (get_or props i d).number (drop (suc i) props)) (lt-ltb last (get_or props i d).number above))
    ∙ sym (rising_at i last props d lt) ∙ so_far)

pub all_rise : (i last : ℕ) (props : List PropValue) (all : Bool) → length props ≤ i → are_rising last (drop i props) ≡ all → true ≡ all
all_rise i last props all le so_far = ap (are_rising last) (sym (drop_all i props le)) ∙ so_far

-- what properties name is what the entries of their map name
pub props_name : (props : List PropValue) → AreRising 0 props
    → flat_map (λ (prop : PropValue). named_by prop.value) props
    ≡ flat_map (λ (e : ℕ × Holder). named_by e.1) (entries (from_entries {R = nat_cmp} (map pair_of props)))
props_name props rising =
    sym (flat_map-map (λ (e : ℕ × Holder). named_by e.1) pair_of props)
    ∙ ap (flat_map (λ (e : ℕ × Holder). named_by e.1)) (sym (pairs_are 0 props rising))

-- so does a tads-object that is to be made of them
pub made_name : (what : NewObject) (supers : List ℕ) (class : Bool) (props : List PropValue) → what ≡ new.Tads supers class props
    → MakesRisingProps what
    → flat_map (λ (prop : PropValue). named_by prop.value) props ≡ named_in (new_value what)
unfolding named_in
made_name what supers class props is rising =
    subst (λ w. MakesRisingProps w → flat_map (λ (prop : PropValue). named_by prop.value) props ≡ named_in (new_value w)) (sym is)
    (props_name props) rising
