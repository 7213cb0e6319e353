-- What a store asks for that is begun with the objects of an image.
use Rattle.std.proofs.Common.{◌≡◌, ℕ, zero, suc, ◌≤◌, Bool, true, false, ◌||◌, ◌&&◌, not, List, [], ◌∷◌, Option, None, Some, length, nat_eq, nat_lt, refl, sym, ap, ◌∙◌, subst, cond, arith}
use Rattle.std.specs.Prelude.{Contains, IsSome, option_and_then, option_map, is_none, is_some}
use Rattle.std.specs.List.{AllByRecursion, IsDistinct, list_any, find}
use Rattle.std.specs.FinMap.{get}
use Rattle.std.proofs.lemmas.Bool.{ltb-false}
use Rattle.t3_tadsobj.specs.Order.{IsWalk}
use Rattle.t3_store.specs.Value.{Value, Objects, supers_of}
use Rattle.t3_store.specs.Whole.{IsWhole, IsAcyclic, AreThere, supers_in, supers_among}
use Rattle.t3_store.specs.declared.limits.StoreLimits.{StoreLimits}
use Rattle.t3_load.specs.ImageObjects.{object_numbers}
use Rattle.t3_load.specs.declared.objects.ImageObject.{ImageObject}
use Rattle.t3_load.specs.ImageObjects.{value_of, object_of, supers_by, superclasses, or_none, flag_or_false, lacks_super, is_transient_at, has_transient_super, is_past, IsHalf, units_together}
use Rattle.t3_load.specs.Rules.{first_by}
use Rattle.t3_load.proofs.ByNumber.{one_of_number, object_is, object_found, either_half}

-- ---- no object fails a test

fails_all : (test : ImageObject → Bool) (objects : List ImageObject) (object : ImageObject) → first_by test objects ≡ None
    → Contains objects object
    → test object ≡ false
fails_all test [] object none there = absurd (omega (arith, there.1))
fails_all test (o ∷ objects) object none there =
    by_test (λ none there. fails_all test objects object none there) (test o) refl none there
  where
    by_test : (first_by test objects ≡ None → Contains objects object → test object ≡ false) → (b : Bool) → test o ≡ b
        → option_map (λ (x : ImageObject). x.number) (cond b (Some o) (find test objects)) ≡ None
        → Contains (o ∷ objects) object → test object ≡ false
    by_test further true t none there = absurd cc
    by_test further false t none (zero, less, is) = ap test (sym is) ∙ t
    by_test further false t none (suc k, less, is) = further none (k, omega (arith, less), is)

fails_any : (test : ℕ → Bool) (P : ℕ → Type 0) → ((n : ℕ) → test n ≡ false → P n) → (numbers : List ℕ) → list_any test numbers ≡ false
    → AllByRecursion P numbers
fails_any test P holds [] none = tt
fails_any test P holds (n ∷ numbers) none = by_test (λ none. fails_any test P holds numbers none) (test n) refl none
  where
    by_test : (list_any test numbers ≡ false → AllByRecursion P numbers) → (b : Bool) → test n ≡ b → (b || list_any test numbers) ≡ false
        → P n × AllByRecursion P numbers
    by_test further true t none = absurd cc
    by_test further false t none = (holds n t, further none)

some_there : (o : Option (List ℕ)) → is_none o ≡ false → IsSome o
some_there None t = absurd cc
some_there (Some x) t = refl

-- ---- the superclasses of all objects

-- what is known of an object that has superclasses
record HasSupers (objects : List ImageObject) (n : ℕ) (supers : List ℕ) : Type 0 where
  object : ImageObject
  among : Contains objects object
  numbered : object.number ≡ n
  are : superclasses object ≡ supers

supers_known : (objects : List ImageObject) (n : ℕ) (supers : List ℕ) → supers_by objects n ≡ Some supers → HasSupers objects n supers
supers_known objects n supers e = by_object (object_of objects n) refl e
  where
    by_object : (o : Option ImageObject) → object_of objects n ≡ o
        → option_and_then (λ (x : ImageObject). supers_of (value_of x)) o ≡ Some supers
        → HasSupers objects n supers
    by_object None found e = absurd cc
    by_object (Some object) found e = let is = object_is objects n object found in
        record { object = object; among = is.0; numbered = is.1; are = ap or_none e }

-- each is there, and none is its own ancestor
pub all_whole : (objects : List ImageObject) → first_by (lacks_super objects) objects ≡ None → IsAcyclic (supers_by objects)
    → IsWhole (supers_by objects)
all_whole objects none acyclic = record {
  there = λ n supers e.
      let known = supers_known objects n supers e in
      subst (AreThere (supers_by objects)) known.are
      (fails_any (λ super. is_none (supers_by objects super)) (λ super. IsSome (supers_by objects super))
      (λ super t. some_there (supers_by objects super) t)
      (superclasses known.object) (fails_all (lacks_super objects) objects known.object none known.among));
  acyclic = acyclic;
}

-- ---- those of the two halves

-- the superclasses among the halves are those of all objects
pub among_both : (objects : List ImageObject) (first passing : Objects) → IsDistinct nat_eq (object_numbers objects)
    → IsHalf false objects first → IsHalf true objects passing → (n : ℕ) → supers_among first passing n ≡ supers_by objects n
among_both objects first passing distinct persistent transient n =
    ap (option_and_then supers_of) (either_half objects first passing distinct persistent transient n) ∙ through (object_of objects n)
  where
    through : (o : Option ImageObject)
        → option_and_then supers_of (option_map value_of o) ≡ option_and_then (λ (x : ImageObject). supers_of (value_of x)) o
    through None = refl
    through (Some object) = refl

-- a superclass of a persistent object is persistent
persistent_supers : (objects : List ImageObject) (first : Objects) (object : ImageObject) → IsDistinct nat_eq (object_numbers objects)
    → IsHalf false objects first → first_by (has_transient_super objects) objects ≡ None → Contains objects object
    → object.transient ≡ false
    → AreThere (supers_by objects) (superclasses object) → AreThere (supers_in first) (superclasses object)
persistent_supers objects first object distinct persistent none among own there =
    both (superclasses object) there
    (fails_any (is_transient_at objects) (λ n. is_transient_at objects n ≡ false) (λ n t. t) (superclasses object)
    (not_transient object.transient own (fails_all (has_transient_super objects) objects object none among)))
  where
    not_transient : (b : Bool) → b ≡ false → (not b && list_any (is_transient_at objects) (superclasses object)) ≡ false
        → list_any (is_transient_at objects) (superclasses object) ≡ false
    not_transient true e f = absurd cc
    not_transient false e f = f

    in_first : (n : ℕ) (o : Option ImageObject) → object_of objects n ≡ o
        → IsSome (option_and_then (λ (x : ImageObject). supers_of (value_of x)) o)
        → flag_or_false o ≡ false → IsSome (supers_in first n)
    in_first n None e some flag = absurd cc
    in_first n (Some o) e some flag =
        let is = object_is objects n o e in
        let held : get first n ≡ Some (value_of o) =
        persistent.holds n (value_of o) (record { object = o; among = is.0; numbered = is.1; half = flag; is = refl }) in
        ap (λ v. is_some (option_and_then supers_of v)) held ∙ some

    both : (numbers : List ℕ) → AreThere (supers_by objects) numbers → AllByRecursion (λ n. is_transient_at objects n ≡ false) numbers
        → AreThere (supers_in first) numbers
    both [] there flags = tt
    both (n ∷ numbers) there flags =
        (in_first n (object_of objects n) refl there.0 flags.0, both numbers there.1 flags.1)

-- a superclass list among the persistent ones is that among all
from_first : (objects : List ImageObject) (first : Objects) → IsDistinct nat_eq (object_numbers objects)
    → IsHalf false objects first → (n : ℕ) (supers : List ℕ) → supers_in first n ≡ Some supers
    → (object : ImageObject) × Contains objects object × (object.number ≡ n) × (object.transient ≡ false)
    × (supers_by objects n ≡ Some supers)
from_first objects first distinct persistent n supers e = by_value (get first n) refl e
  where
    by_value : (o : Option Value) → get first n ≡ o → option_and_then supers_of o ≡ Some supers
        → (object : ImageObject) × Contains objects object × (object.number ≡ n) × (object.transient ≡ false)
        × (supers_by objects n ≡ Some supers)
    by_value None held e = absurd cc
    by_value (Some value) held e =
        let among = persistent.only n value held in
        let found : object_of objects n ≡ Some among.object =
        ap (object_of objects) (sym among.numbered) ∙ object_found objects among.object distinct among.among in (
          among.object,
          among.among,
          among.numbered,
          among.half,
          ap (option_and_then (λ (x : ImageObject). supers_of (value_of x))) found ∙ ap supers_of among.is ∙ e,
        )

walk_up : (objects : List ImageObject) (first : Objects) → IsDistinct nat_eq (object_numbers objects)
    → IsHalf false objects first → (n above : ℕ) (path : List ℕ) → IsWalk (supers_in first) n path above
    → IsWalk (supers_by objects) n path above
walk_up objects first distinct persistent n above [] step =
    record { supers = step.supers; are = (from_first objects first distinct persistent n step.supers step.are).4; among = step.among }
walk_up objects first distinct persistent n above (next ∷ path) walk = (
  record {
    supers = walk.0.supers;
    are =
        (from_first objects first distinct persistent n walk.0.supers walk.0.are).4;
    among = walk.0.among;
  },
  walk_up objects first distinct persistent next above path walk.1,
)

pub persistent_whole : (objects : List ImageObject) (first : Objects) → IsDistinct nat_eq (object_numbers objects)
    → IsHalf false objects first → first_by (has_transient_super objects) objects ≡ None → IsWhole (supers_by objects)
    → IsWhole (supers_in first)
persistent_whole objects first distinct persistent none whole = record {
  there = λ n supers e.
      let from = from_first objects first distinct persistent n supers e in
      let known = supers_known objects n supers from.4 in
      let same : known.object ≡ from.0 =
      one_of_number objects known.object from.0 distinct known.among from.1 (known.numbered ∙ sym from.2) in
      subst (AreThere (supers_in first)) known.are
      (persistent_supers objects first known.object distinct persistent none known.among (ap (λ (o : ImageObject). o.transient) same
      ∙ from.3)
      (subst (AreThere (supers_by objects)) (sym known.are) (whole.there n supers from.4)));
  acyclic = λ n ancestor. whole.acyclic n (ancestor.0, walk_up objects first distinct persistent n n ancestor.0 ancestor.1);
}

-- ---- how much they are

pub within_limits : (limits : StoreLimits) (objects : List ImageObject) → is_past limits objects ≡ false
    → (length objects ≤ limits.objects) × (units_together objects ≤ limits.units)
within_limits limits objects e = by_test (nat_lt limits.objects (length objects)) refl e
  where
    by_test : (b : Bool) → nat_lt limits.objects (length objects) ≡ b → (b || nat_lt limits.units (units_together objects)) ≡ false
        → (length objects ≤ limits.objects) × (units_together objects ≤ limits.units)
    by_test true t e = absurd cc
    by_test false t e = (ltb-false limits.objects (length objects) t, ltb-false limits.units (units_together objects) e)
