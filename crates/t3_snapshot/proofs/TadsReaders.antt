-- Tads-objects are read: what is taken is spelled, and what is spelled is read.
use Rattle.std.proofs.Common.{◌≡◌, ℕ, zero, suc, map, ◌^◌, ◌<◌, Bool, true, false, List, [], ◌∷◌, ◌++◌, length, Some, refl, sym, ap, subst, ◌∙◌, append_assoc, arith}
use Rattle.std.specs.List.{AllByRecursion, flat_map}
use Rattle.std.specs.Ordering.{nat_cmp}
use Rattle.std.specs.FinMap.{entries, from_entries}
use Rattle.std.proofs.lemmas.List.{length-map}
use Rattle.std.proofs.lemmas.List.Folds.{flat_map-map}
use Rattle.t3_holder.specs.NumberText.{little_endian, AreBytes}
use Rattle.t3_holder.specs.declared.holder.Holder.{Holder}
use Rattle.t3_tadsobj.specs.declared.props.PropValue.{PropValue}
use Rattle.t3_store.specs.Value.{Value, Tads}
use Rattle.t3_tadsobj.specs.Props.{PropMap, pair_of}
use Rattle.t3_snapshot.specs.Building.{AreRising}
use Rattle.t3_snapshot.proofs.Sorted.{in_order, map_of_entries}
use Rattle.t3_snapshot.proofs.Rising.{prop_value, rising_from, pairs_are, rises_so}
use Rattle.t3_snapshot.specs.Layout.{holder_text, IsGoodHolder, super_text, class_flag, class_text, prop_text, IsProp, counted_text, AreCounted, value_text, IsSpellable}
use Rattle.t3_snapshot.specs.Inner.Reading.{number_at, holder_at, counted_at, class_from, class_at, prop_at, are_rising, tads_at}
use Rattle.t3_snapshot.proofs.Leaves.{bind_some, some_is, number_takes, number_again}
use Rattle.t3_snapshot.proofs.Readers.{Took, Reads, where_some, holders_read, counted_read}

flag_of : (flags : ℕ) (class : Bool) → class_from flags ≡ Some class → flags ≡ class_flag class
flag_of zero class e = ap class_flag (some_is false class e)
flag_of (suc zero) class e = ap class_flag (some_is true class e)
flag_of (suc (suc n)) class e = absurd cc

from_flag : (class : Bool) → class_from (class_flag class) ≡ Some class
from_flag true = refl
from_flag false = refl

small_flag : (class : Bool) → class_flag class < 256 ^ 2
small_flag true = omega arith
small_flag false = omega arith

-- every class flag has a text
abbrev IsClass : Bool → Type 0
IsClass class = Unit {0}

class_takes : (bytes : List ℕ) (class : Bool) (rest : List ℕ) → AreBytes bytes → class_at bytes ≡ Some (class, rest)
    → Took class_text IsClass bytes class rest
unfolding class_at class_text
class_takes bytes class rest are e =
    let n = bind_some (number_at 2 bytes) _ (class, rest) e in
    let c = bind_some (class_from n.0.0) _ (class, rest) n.2 in
    let first = number_takes 2 bytes n.0.0 n.0.1 are n.1 in
    let made : Took (λ b. little_endian 2 (class_flag b)) IsClass bytes c.0 n.0.1 = record {
      is = first.0 ∙ ap (λ k. little_endian 2 k ++ n.0.1) (flag_of n.0.0 c.0 c.1);
      fits = tt;
      left = first.2;
    } in
    subst (λ (p : Bool × List ℕ). Took (λ b. little_endian 2 (class_flag b)) IsClass bytes p.0 p.1) (some_is _ _ c.2) made

class_again : (class : Bool) (rest : List ℕ) → IsClass class → class_at (class_text class ++ rest) ≡ Some (class, rest)
unfolding class_at class_text
class_again class rest fits = rw (number_again 2 (class_flag class) rest (small_flag class), from_flag class) refl

classes_read : Reads class_text IsClass class_at
classes_read = record { takes = class_takes; again = class_again }

supers_read : Reads super_text (λ number. number < 2 ^ 32) (number_at 4)
unfolding super_text
supers_read = record {
  takes = λ bytes n rest are e. let t = number_takes 4 bytes n rest are e in record { is = t.0; fits = t.1; left = t.2 };
  again = λ n rest lt. number_again 4 n rest lt;
}

-- a property that stands by itself
record IsPropField (prop : PropValue) : Type 0 where
  fits : prop.number < 2 ^ 16
  value : IsGoodHolder prop.value

abbrev prop_value_text : PropValue → List ℕ
prop_value_text prop = prop_text (pair_of prop)

prop_takes : (bytes : List ℕ) (prop : PropValue) (rest : List ℕ) → AreBytes bytes → prop_at bytes ≡ Some (prop, rest)
    → Took prop_value_text IsPropField bytes prop rest
unfolding prop_at prop_text
prop_takes bytes prop rest are e =
    let n = bind_some (number_at 2 bytes) _ (prop, rest) e in
    let v = bind_some (holder_at n.0.1) _ (prop, rest) n.2 in
    let first = number_takes 2 bytes n.0.0 n.0.1 are n.1 in
    let second = holders_read.takes n.0.1 v.0.0 v.0.1 first.2 v.1 in
    let made : Took (λ (p : PropValue). little_endian 2 p.number ++ holder_text p.value) IsPropField bytes
    (record { number = n.0.0; value = v.0.0 }) v.0.1 = record {
      is = first.0 ∙ ap (λ r. little_endian 2 n.0.0 ++ r) second.is ∙ sym (append_assoc (little_endian 2 n.0.0) (holder_text v.0.0) v.0.1);
      fits = record { fits = first.1; value = second.fits };
      left = second.left;
    } in
    subst (λ (p : PropValue × List ℕ). Took (λ (p : PropValue). little_endian 2 p.number ++ holder_text p.value) IsPropField bytes p.0 p.1)
    (some_is _ _ v.2) made

prop_again : (prop : PropValue) (rest : List ℕ) → IsPropField prop → prop_at (prop_value_text prop ++ rest) ≡ Some (prop, rest)
unfolding prop_at prop_text
prop_again prop rest fits =
    rw (
      append_assoc (little_endian 2 prop.number) (holder_text prop.value) rest,
      number_again 2 prop.number (holder_text prop.value ++ rest) fits.fits,
      holders_read.again prop.value rest fits.value,
    ) refl

props_read : Reads prop_value_text IsPropField prop_at
props_read = record { takes = prop_takes; again = prop_again }

-- the properties of a map
abbrev props_of : PropMap → List PropValue
props_of props = map prop_value (entries props)

pairs_back : (es : List (ℕ × Holder)) → map pair_of (map prop_value es) ≡ es
pairs_back [] = refl
pairs_back (e ∷ es) = ap (λ es. e ∷ es) (pairs_back es)

-- the same count and the same text, of properties and of pairs
counted_pairs : (props : List PropValue) → counted_text 2 prop_value_text props ≡ counted_text 2 prop_text (map pair_of props)
unfolding counted_text
counted_pairs props =
    ap (λ k. little_endian 2 k ++ flat_map prop_value_text props) (sym (length-map props pair_of))
    ∙ ap (λ x. little_endian 2 (length (map pair_of props)) ++ x) (sym (flat_map-map prop_text pair_of props))

props_fit : (last : ℕ) (props : List PropValue) → AreRising last props → AllByRecursion IsPropField props
    → AllByRecursion IsProp (map pair_of props)
props_fit last [] rising all = tt
props_fit last (prop ∷ props) rising all =
    (record { named = omega (arith, rising.0); fits = all.0.fits; value = all.0.value }, props_fit prop.number props rising.1 all.1)

fields_fit : (es : List (ℕ × Holder)) → AllByRecursion IsProp es → AllByRecursion IsPropField (map prop_value es)
fields_fit [] all = tt
fields_fit (e ∷ es) all = (record { fits = all.0.fits; value = all.0.value }, fields_fit es all.1)

above_none : (es : List (ℕ × Holder)) → AllByRecursion IsProp es → AllByRecursion (λ e. 0 < e.0) es
above_none [] all = tt
above_none (e ∷ es) all = (all.0.named, above_none es all.1)

pub tads_takes : (bytes : List ℕ) (value : Value) (rest : List ℕ) → AreBytes bytes → tads_at bytes ≡ Some (value, rest)
    → (1 ∷ bytes ≡ value_text value ++ rest) × IsSpellable value × AreBytes rest
unfolding tads_at value_text
tads_takes bytes value rest are e =
    let c = bind_some (class_at bytes) _ (value, rest) e in
    let s = bind_some (counted_at (number_at 4) 2 c.0.1) _ (value, rest) c.2 in
    let p = bind_some (counted_at prop_at 2 s.0.1) _ (value, rest) s.2 in
    let g = where_some (are_rising 0 p.0.0) (Tads s.0.0 c.0.0 (from_entries (map pair_of p.0.0)), p.0.1) (value, rest) p.2 in
    let class = classes_read.takes bytes c.0.0 c.0.1 are c.1 in
    let supers = (counted_read supers_read 2).takes c.0.1 s.0.0 s.0.1 class.left s.1 in
    let props = (counted_read props_read 2).takes s.0.1 p.0.0 p.0.1 supers.left p.1 in
    let rising = rising_from 0 p.0.0 g.0 in
    let pairs : entries (from_entries {R = nat_cmp} (map pair_of p.0.0)) ≡ map pair_of p.0.0 = pairs_are 0 p.0.0 rising in
    let props_text : List ℕ = counted_text 2 prop_text (entries (from_entries {R = nat_cmp} (map pair_of p.0.0))) in
    let props_are : s.0.1 ≡ props_text ++ p.0.1 =
    props.is ∙ ap (λ x. x ++ p.0.1) (counted_pairs p.0.0 ∙ ap (counted_text 2 prop_text) (sym pairs)) in
    subst (λ (q : Value × List ℕ). (1 ∷ bytes ≡ value_text q.0 ++ q.1) × IsSpellable q.0 × AreBytes q.1) g.1 (
      ap (λ r. 1 ∷ r) (class.is ∙ ap (λ r. class_text c.0.0 ++ r) (supers.is ∙ ap (λ r. counted_text 2 super_text s.0.0 ++ r) props_are
          ∙ sym (append_assoc (counted_text 2 super_text s.0.0) props_text p.0.1))
          ∙ sym (append_assoc (class_text c.0.0) (counted_text 2 super_text s.0.0 ++ props_text) p.0.1)),
      (
        supers.fits,
        subst (AreCounted 2 IsProp) (sym pairs)
            (record {
              few =
                  subst (λ k. k < 256 ^ 2) (sym (length-map p.0.0 pair_of)) props.fits.few;
              each = props_fit 0 p.0.0 rising props.fits.each;
            }),
      ),
      props.left,
    )

-- the rest of a tads-object is read again
pub tads_again : (supers : List ℕ) (class : Bool) (props : PropMap) (rest : List ℕ) → IsSpellable (Tads supers class props)
    → tads_at ((class_text class ++ (counted_text 2 super_text supers ++ counted_text 2 prop_text (entries props))) ++ rest)
    ≡ Some (Tads supers class props, rest)
unfolding tads_at
tads_again supers class props rest fits =
    let supers_text : List ℕ = counted_text 2 super_text supers in
    let props_text : List ℕ = counted_text 2 prop_text (entries props) in
    let text : props_text ≡ counted_text 2 prop_value_text (props_of props) =
    ap (counted_text 2 prop_text) (sym (pairs_back (entries props))) ∙ sym (counted_pairs (props_of props)) in
    let fields : AreCounted 2 IsPropField (props_of props) =
    record {
      few =
          subst (λ k. k < 256 ^ 2) (sym (length-map (entries props) prop_value)) fits.1.few;
      each = fields_fit (entries props) fits.1.each;
    }
    in
    let read : counted_at prop_at 2 (props_text ++ rest) ≡ Some (props_of props, rest) =
    ap (λ x. counted_at prop_at 2 (x ++ rest)) text ∙ (counted_read props_read 2).again (props_of props) rest fields in
    let rises : are_rising 0 (props_of props) ≡ true =
    rises_so 0 (entries props) (above_none (entries props) fits.1.each) (in_order props) in
    let map_is : from_entries {R = nat_cmp} (map pair_of (props_of props)) ≡ props =
    ap (from_entries {R = nat_cmp}) (pairs_back (entries props)) ∙ map_of_entries props in
    rw (
      append_assoc (class_text class) (supers_text ++ props_text) rest,
      classes_read.again class ((supers_text ++ props_text) ++ rest) tt,
      append_assoc supers_text props_text rest,
      (counted_read supers_read 2).again supers (props_text ++ rest) fits.0,
      read,
      rises,
    )
    (ap (λ (m : PropMap). Some (Tads supers class m, rest)) map_is)
