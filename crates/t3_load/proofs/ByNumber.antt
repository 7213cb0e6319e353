-- Objects by their numbers, of which no two are the same.
use Rattle.std.proofs.Common.{◌≡◌, ℕ, zero, suc, ◌<◌, ◌≤◌, Bool, true, false, List, [], ◌∷◌, Option, None, Some, nat_eq, fold, max, refl, sym, ap, ◌∙◌, cond, arith}
use Rattle.std.specs.Prelude.{Contains, IsSome, option_map, is_some}
use Rattle.std.specs.List.{All, AllByRecursion, IsDistinct}
use Rattle.std.specs.FinMap.{get}
use Rattle.std.proofs.lemmas.Bool.{eqb-true, eq-eqb}
use Rattle.std.proofs.lemmas.List.Elements.{All-head, All-tail, Contains-append_right}
use Rattle.t3_store.specs.Value.{Value, Objects}
use Rattle.t3_store.specs.Store.{AreBelow, either}
use Rattle.t3_store.specs.Whole.{AreApart}
use Rattle.t3_load.specs.ImageObjects.{object_numbers}
use Rattle.t3_load.specs.declared.objects.ImageObject.{ImageObject}
use Rattle.t3_load.specs.ImageObjects.{value_of, object_of, IsHalf}
use Rattle.t3_load.specs.Loading.{next_above}
use Rattle.t3_load.proofs.Halving.{contains_map}

apart_of : (n : ℕ) (objects : List ImageObject) (b : ImageObject)
    → AllByRecursion (λ y. nat_eq n y ≡ false) (object_numbers objects) → Contains objects b → nat_eq n b.number ≡ false
apart_of n [] b all there = absurd (omega (arith, there.1))
apart_of n (o ∷ objects) b all (zero, less, is) = ap (λ (x : ImageObject). nat_eq n x.number) (sym is) ∙ all.0
apart_of n (o ∷ objects) b all (suc k, less, is) = apart_of n objects b all.1 (k, omega (arith, less), is)

-- two of one number are the same
pub one_of_number : (objects : List ImageObject) (a b : ImageObject) → IsDistinct nat_eq (object_numbers objects)
    → Contains objects a → Contains objects b → a.number ≡ b.number → a ≡ b
unfolding IsDistinct
one_of_number [] a b distinct at_a at_b same = absurd (omega (arith, at_a.1))
one_of_number (o ∷ objects) a b distinct (zero, la, ia) (zero, lb, ib) same = sym ia ∙ ib
one_of_number (o ∷ objects) a b distinct (zero, la, ia) (suc k, lb, ib) same =
    let differ = apart_of o.number objects b distinct.0 (k, omega (arith, lb), ib) in
    let equal = eq-eqb o.number b.number (ap (λ (x : ImageObject). x.number) ia ∙ same) in absurd cc
one_of_number (o ∷ objects) a b distinct (suc k, la, ia) (zero, lb, ib) same =
    let differ = apart_of o.number objects a distinct.0 (k, omega (arith, la), ia) in
    let equal = eq-eqb o.number a.number (ap (λ (x : ImageObject). x.number) ib ∙ sym same) in absurd cc
one_of_number (o ∷ objects) a b distinct (suc k, la, ia) (suc m, lb, ib) same =
    one_of_number objects a b distinct.1 (k, omega (arith, la), ia) (m, omega (arith, lb), ib) same

-- the object of a number is among them, and has the number
pub object_is : (objects : List ImageObject) (n : ℕ) (object : ImageObject) → object_of objects n ≡ Some object
    → Contains objects object × (object.number ≡ n)
object_is [] n object e = absurd cc
object_is (o ∷ objects) n object e = by_test (object_is objects n object) (nat_eq n o.number) refl e
  where
    by_test : (object_of objects n ≡ Some object → Contains objects object × (object.number ≡ n)) → (b : Bool) → nat_eq n o.number ≡ b
        → cond b (Some o) (object_of objects n) ≡ Some object → Contains (o ∷ objects) object × (object.number ≡ n)
    by_test rest true same e =
        let is : o ≡ object = cc e in
        ((0, omega arith, is), sym (eqb-true n o.number same ∙ ap (λ (x : ImageObject). x.number) is))
    by_test rest false differ e = let found = rest e in (Contains-append_right (o ∷ []) objects object found.0, found.1)

behind : (o : ImageObject) (objects : List ImageObject) (n : ℕ) (b : Bool) → cond b (Some o) (object_of objects n) ≡ None
    → object_of objects n ≡ None
behind o objects n true e = absurd cc
behind o objects n false e = e

none_of : (objects : List ImageObject) (object : ImageObject) → Contains objects object → object_of objects object.number ≡ None → ⊥
none_of [] object there e = omega (arith, there.1)
none_of (o ∷ objects) object (zero, less, is) e =
    let same : nat_eq object.number o.number ≡ true = eq-eqb object.number o.number (ap (λ (x : ImageObject). x.number) (sym is)) in
    let gone : cond true (Some o) (object_of objects object.number) ≡ None =
    ap (λ b. cond b (Some o) (object_of objects object.number)) (sym same) ∙ e in absurd cc
none_of (o ∷ objects) object (suc k, less, is) e =
    none_of objects object (k, omega (arith, less), is) (behind o objects object.number (nat_eq object.number o.number) e)

-- one that is among them is that of its number
pub object_found : (objects : List ImageObject) (object : ImageObject) → IsDistinct nat_eq (object_numbers objects)
    → Contains objects object → object_of objects object.number ≡ Some object
object_found objects object distinct there = by_found (object_of objects object.number) refl
  where
    by_found : (o : Option ImageObject) → object_of objects object.number ≡ o → object_of objects object.number ≡ Some object
    by_found None e = absurd (none_of objects object there e)
    by_found (Some other) e =
        let is = object_is objects object.number other e in
        e ∙ ap Some (one_of_number objects other object distinct is.0 there is.1)

-- ---- numbers below the next one

pub at_most : (numbers : List ℕ) (n from : ℕ) → Contains numbers n → n ≤ fold max from numbers
at_most [] n from there = absurd (omega (arith, there.1))
at_most (m ∷ numbers) n from (zero, less, is) = omega (arith, is, kept_below numbers (max from m))
  where
    kept_below : (numbers : List ℕ) (from : ℕ) → from ≤ fold max from numbers
    kept_below [] from = omega arith
    kept_below (m ∷ numbers) from = omega (arith, kept_below numbers (max from m))
at_most (m ∷ numbers) n from (suc k, less, is) = at_most numbers n (max from m) (k, omega (arith, less), is)

pub bounded : (numbers : List ℕ) (from bound : ℕ) → from < bound → All (λ n. n < bound) numbers → fold max from numbers < bound
bounded [] from bound less all = less
bounded (n ∷ numbers) from bound less all =
    let here : n < bound = All-head (λ m. m < bound) n numbers all in
    bounded numbers (max from n) bound (omega (arith, less, here)) (All-tail (λ m. m < bound) n numbers all)

-- an object of a half has its number, which is below the next one
pub half_below : (transient : Bool) (objects : List ImageObject) (half : Objects) → IsHalf transient objects half
    → AreBelow (next_above (object_numbers objects)) half
half_below transient objects half is n beyond = by_value (get half n) refl
  where
    by_value : (o : Option Value) → get half n ≡ o → o ≡ None
    by_value None e = refl
    by_value (Some value) e =
        let among = is.only n value e in
        absurd (omega (
          arith,
          beyond,
          among.numbered,
          at_most (object_numbers objects) among.object.number 0
              (contains_map (λ (o : ImageObject). o.number) objects among.object among.among),
        ))

-- no number is in both halves
pub halves_apart : (objects : List ImageObject) (first passing : Objects) → IsDistinct nat_eq (object_numbers objects)
    → IsHalf false objects first → IsHalf true objects passing → AreApart first passing
halves_apart objects first passing distinct persistent transient n some = by_values (get first n) refl (get passing n) refl some
  where
    by_values : (p : Option Value) → get first n ≡ p → (t : Option Value) → get passing n ≡ t → IsSome p → t ≡ None
    by_values None e t f some = absurd cc
    by_values (Some value) e None f some = refl
    by_values (Some value) e (Some other) f some =
        let one = persistent.only n value e in
        let two = transient.only n other f in
        let same = one_of_number objects one.object two.object distinct one.among two.among (one.numbered ∙ sym two.numbered) in
        let half : false ≡ true = sym one.half ∙ ap (λ (o : ImageObject). o.transient) same ∙ two.half in
        absurd cc

absent : (objects : List ImageObject) → IsDistinct nat_eq (object_numbers objects) → (n : ℕ) (t : Bool) (half : Objects)
    → IsHalf t objects half → object_of objects n ≡ None → get half n ≡ None
absent objects distinct n t half is none = by_value (get half n) refl
  where
    by_value : (o : Option Value) → get half n ≡ o → o ≡ None
    by_value None e = refl
    by_value (Some value) e =
        let among = is.only n value e in
        let found : object_of objects n ≡ Some among.object =
        ap (object_of objects) (sym among.numbered) ∙ object_found objects among.object distinct among.among in
        absurd cc

not_first : (objects : List ImageObject) (first passing : Objects) → IsDistinct nat_eq (object_numbers objects)
    → IsHalf false objects first → IsHalf true objects passing → (n : ℕ) (value : Value) (p : Option Value) → get first n ≡ p
    → get passing n ≡ Some value → get first n ≡ None
not_first objects first passing distinct persistent transient n value None e there = e
not_first objects first passing distinct persistent transient n value (Some other) e there =
    let gone = halves_apart objects first passing distinct persistent transient n (ap is_some e) in absurd cc

-- what stands under a number in the two halves is the object of that number
pub either_half : (objects : List ImageObject) (first passing : Objects) → IsDistinct nat_eq (object_numbers objects)
    → IsHalf false objects first → IsHalf true objects passing → (n : ℕ)
    → either (get first n) (get passing n) ≡ option_map value_of (object_of objects n)
either_half objects first passing distinct persistent transient n = by_object (object_of objects n) refl
  where
    by_half : (object : ImageObject) → Contains objects object × (object.number ≡ n) → (t : Bool) → object.transient ≡ t
        → either (get first n) (get passing n) ≡ Some (value_of object)
    by_half object is false own =
        ap (λ p. either p (get passing n)) (persistent.holds n (value_of object)
        (record { object = object; among = is.0; numbered = is.1; half = own; is = refl }))
    by_half object is true own =
        let there = transient.holds n (value_of object) (record {
          object = object;
          among = is.0;
          numbered = is.1;
          half = own;
          is =
              refl;
        }) in
        ap (λ p. either p (get passing n))
        (not_first objects first passing distinct persistent transient n (value_of object) (get first n) refl there) ∙ there

    by_object : (o : Option ImageObject) → object_of objects n ≡ o → either (get first n) (get passing n) ≡ option_map value_of o
    by_object None e =
        ap (λ p. either p (get passing n)) (absent objects distinct n false first persistent e)
        ∙ absent objects distinct n true passing transient e
    by_object (Some object) e = by_half object (object_is objects n object e) object.transient refl
