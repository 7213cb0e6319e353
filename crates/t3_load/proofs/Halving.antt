-- Objects that go into the half that they belong to.
use Rattle.std.proofs.Common.{◌≡◌, ℕ, suc, ◌+◌, ◌<◌, ◌≤◌, ◌⊎◌, ◌↔◌, Bool, true, false, ◌||◌, List, [], ◌∷◌, ◌++◌, Option, None, Some, Result, Ok, Err, length, map, take, drop, get_or, nat_eq, nat_lt, refl, sym, ap, ◌∙◌, subst, inl, inr, arith}
use Rattle.std.specs.Prelude.{Contains, IsTrue, IfErr, IsErrAnd}
use Rattle.std.specs.List.{IsDistinct}
use Rattle.std.specs.List.Sorted.{IsPermutation}
use Rattle.std.specs.Ordering.{nat_cmp}
use Rattle.std.specs.FinMap.{get, insert, len, empty, get-empty, len-empty}
use Rattle.std.proofs.lemmas.Bool.{le-ltb, eqb-true, eq-eqb}
use Rattle.std.proofs.lemmas.List.{get_or-map, length-map, take-map, length-append}
use Rattle.std.proofs.lemmas.List.Elements.{Contains-append_left, Contains-push, Contains-push_cases, All-contains, Contains-get_or}
use Rattle.std.proofs.lemmas.List.Sorted.{IsPermutation-map, length_permutation, sum_by-IsPermutation, All-permutation, Contains-permutation, IsPermutation-sym}
use Rattle.std.proofs.lemmas.List.Sums.{sum_by_push, sum_by-take-le, sum_by_more}
use Rattle.std.proofs.lemmas.Map.Keys.{IsDistinct-IsPermutation}
use Rattle.t3_store.specs.Value.{Value, Objects, units_of, units_in}
use Rattle.t3_store.specs.declared.limits.StoreRefusal.{StoreRefusal}
use Rattle.t3_store.specs.declared.limits.StoreRefusal.TheVariants as store
use Rattle.t3_store.proofs.Added.{added_here, added_there, added_len, added_units, none_units}
use Rattle.t3_load.specs.ImageObjects.{object_numbers}
use Rattle.t3_load.specs.declared.objects.ImageObject.{ImageObject}
use Rattle.t3_load.specs.ImageObjects.{value_of, units_together, IsAmong, IsHalf}
use Rattle.t3_load.specs.Inner.Halves.{IsMade, AreMade, AreHalves, CanAdd, half_of, refusal_by_store}
use Rattle.t3_load.specs.declared.refusal.LoadRefusal.{LoadRefusal}
use Rattle.t3_load.specs.declared.refusal.LoadRefusal.TheVariants as refusals
use Rattle.t3_load.proofs.Firsts.{parts_at, not_twice}

number_of : ImageObject → ℕ
number_of object = object.number

pub contains_map : {X Y : Type 0} (f : X → Y) (xs : List X) (x : X) → Contains xs x → Contains (map f xs) (f x)
contains_map f xs x there =
    (there.0, omega (arith, there.1, length-map xs f), get_or-map f xs there.0 x (f x) there.1 ∙ ap f there.2)

flips : (x y : ℕ) (a b : Bool) → nat_eq x y ≡ a → nat_eq y x ≡ b → a ≡ b
flips x y true true p q = refl
flips x y false false p q = refl
flips x y true false p q = sym (eq-eqb y x (sym (eqb-true x y p))) ∙ q
flips x y false true p q = sym p ∙ eq-eqb x y (sym (eqb-true y x q))

-- the number of the next of them isn't that of one before it
pub new_number : (objects sorted : List ImageObject) (i : ℕ) (object : ImageObject) → IsDistinct nat_eq (object_numbers objects)
    → IsPermutation objects sorted → i < length sorted → object ≡ get_or sorted i object
    → ¬ Contains (object_numbers (take i sorted)) object.number
new_number objects sorted i object distinct moved less is there =
    let numbers = object_numbers sorted in
    let apart : IsDistinct nat_eq numbers =
    IsDistinct-IsPermutation nat_eq (λ x y. flips x y (nat_eq x y) (nat_eq y x) refl refl) (object_numbers objects) numbers
    (IsPermutation-map (λ (o : ImageObject). o.number) objects sorted moved) distinct in
    let here : get_or numbers i object.number ≡ object.number =
    get_or-map (λ (o : ImageObject). o.number) sorted i object object.number less ∙ ap (λ (o : ImageObject). o.number) (sym is) in
    let parts = parts_at numbers i object.number object.number
    (omega (arith, less, length-map sorted (λ (o : ImageObject). o.number))) here in
    not_twice (take i numbers) (drop (suc i) numbers) object.number (subst (IsDistinct nat_eq) parts apart)
    (subst (λ ns. Contains ns object.number) (sym (take-map (λ (o : ImageObject). o.number) i sorted)) there)

-- no object of the half has it
pub fresh : (transient : Bool) (done : List ImageObject) (half : Objects) (n : ℕ) → IsHalf transient done half
    → ¬ Contains (object_numbers done) n → get half n ≡ None
fresh transient done half n is none = by_value (get half n) refl
  where
    by_value : (o : Option Value) → get half n ≡ o → o ≡ None
    by_value None e = refl
    by_value (Some value) e =
        let among = is.only n value e in
        absurd (none (subst (λ m. Contains (object_numbers done) m) among.numbered
        (contains_map (λ (o : ImageObject). o.number) done among.object among.among)))

-- an object more in its half
pub half_more : (transient : Bool) (done : List ImageObject) (half new : Objects) (object : ImageObject) → IsHalf transient done half
    → get half object.number ≡ None → object.transient ≡ transient → new ≡ insert half object.number (value_of object)
    → IsHalf transient (done ++ object ∷ []) new
half_more transient done half new object is none own inserted = record {
  holds = λ n value among. holds n value among (Contains-push_cases done object among.object among.among);
  only = λ n value e. only n value (nat_eq n object.number) refl e;
}
  where
    holds : (n : ℕ) (value : Value) → (among : IsAmong transient (done ++ object ∷ []) n value)
        → Contains done among.object ⊎ (object ≡ among.object) → get new n ≡ Some value
    holds n value among (inl before) =
        let there = is.holds n value (record {
          object = among.object;
          among = before;
          numbered = among.numbered;
          half = among.half;
          is = among.is;
        }) in
        ap (λ m. get m n) inserted
        ∙ added_there half object.number n (value_of object) (λ same. let gone : get half n ≡ None = ap (get half) same ∙ none in absurd cc)
        ∙ there
    holds n value among (inr same) =
        let number : object.number ≡ n = ap (λ (o : ImageObject). o.number) same ∙ among.numbered in
        ap (λ m. get m n) inserted ∙ ap (get (insert half object.number (value_of object))) (sym number)
        ∙ added_here half object.number (value_of object) ∙ ap Some (ap value_of same ∙ among.is)

    only : (n : ℕ) (value : Value) → (b : Bool) → nat_eq n object.number ≡ b → get new n ≡ Some value
        → IsAmong transient (done ++ object ∷ []) n value
    only n value true same e =
        let number : n ≡ object.number = eqb-true n object.number same in
        let here : Some (value_of object) ≡ Some value =
        sym (added_here half object.number (value_of object)) ∙ ap (get (insert half object.number (value_of object))) (sym number)
        ∙ sym (ap (λ m. get m n) inserted) ∙ e in
        record { object = object; among = Contains-push done object; numbered = sym number; half = own; is = cc here }
    only n value false differ e =
        let apart : n ≡ object.number → ⊥ = λ same. let eq = eq-eqb n object.number same in absurd cc in
        let there = is.only n value (sym (added_there half object.number n (value_of object) apart) ∙ sym (ap (λ m. get m n) inserted)
        ∙ e) in
        record {
          object = there.object;
          among = Contains-append_left done (object ∷ []) there.object there.among;
          numbered = there.numbered;
          half = there.half;
          is = there.is;
        }

-- the other half stays
pub half_same : (transient : Bool) (done : List ImageObject) (half : Objects) (object : ImageObject) → IsHalf transient done half
    → (object.transient ≡ transient → ⊥) → IsHalf transient (done ++ object ∷ []) half
half_same transient done half object is other = record {
  holds = λ n value among. holds n value among (Contains-push_cases done object among.object among.among);
  only = λ n value e. let there = is.only n value e in record {
    object = there.object;
    among = Contains-append_left done (object ∷ []) there.object there.among;
    numbered = there.numbered;
    half = there.half;
    is = there.is;
  };
}
  where
    holds : (n : ℕ) (value : Value) → (among : IsAmong transient (done ++ object ∷ []) n value)
        → Contains done among.object ⊎ (object ≡ among.object) → get half n ≡ Some value
    holds n value among (inl before) = is.holds n value (record {
      object = among.object;
      among = before;
      numbered = among.numbered;
      half = among.half;
      is = among.is;
    })
    holds n value among (inr same) = absurd (other (ap (λ (o : ImageObject). o.transient) same ∙ among.half))

-- an object more, under a number that is new in its half
pub halves_more : (own : Bool) (done : List ImageObject) (first passing new : Objects) (object : ImageObject) → AreHalves done first passing
    → get (half_of first passing own) object.number ≡ None → object.transient ≡ own
    → new ≡ insert (half_of first passing own) object.number (value_of object)
    → AreHalves (done ++ object ∷ []) (half_of new first own) (half_of passing new own)
halves_more own done first passing new object halves none is inserted = record {
  each = each own none is inserted;
  count = omega (
    arith,
    halves.count,
    more len 1 own (ap len inserted ∙ added_len (half_of first passing own) object.number (value_of object) none),
    length-append done (object ∷ []),
  );
  units = omega (
    arith,
    halves.units,
    more units_in (units_of (value_of object)) own
        (ap units_in inserted ∙ added_units (half_of first passing own) object.number (value_of object) none),
    sum_by_push (λ (o : ImageObject). units_of (value_of o)) done object,
  );
}
  where
    each : (own : Bool) → get (half_of first passing own) object.number ≡ None → object.transient ≡ own
        → new ≡ insert (half_of first passing own) object.number (value_of object)
        → (t : Bool) → IsHalf t (done ++ object ∷ []) (half_of (half_of new first own) (half_of passing new own) t)
    each true none is inserted true = half_more true done passing new object (halves.each true) none is inserted
    each true none is inserted false = half_same false done first object (halves.each false) (λ other. absurd cc)
    each false none is inserted true = half_same true done passing object (halves.each true) (λ other. absurd cc)
    each false none is inserted false = half_more false done first new object (halves.each false) none is inserted

    more : (measure : Objects → ℕ) (k : ℕ) (own : Bool) → measure new ≡ measure (half_of first passing own) + k
        → measure (half_of new first own) + measure (half_of passing new own) ≡ measure first + measure passing + k
    more measure k true e = omega (arith, e)
    more measure k false e = omega (arith, e)

-- no objects
pub no_halves : (first passing : Objects) → first ≡ empty → passing ≡ empty → AreHalves [] first passing
no_halves first passing none gone = record {
  each = each;
  count = omega (arith, ap len none, ap len gone, len-empty nat_cmp Value);
  units = omega (arith, ap units_in none, ap units_in gone, none_units);
}
  where
    no_half : (transient : Bool) (half : Objects) → half ≡ empty → IsHalf transient [] half
    no_half transient half is = record {
      holds = λ n value among. absurd (omega (arith, among.among.1));
      only = λ n value e. let gone : get half n ≡ None = ap (λ m. get m n) is ∙ get-empty nat_cmp n in absurd cc;
    }

    each : (transient : Bool) → IsHalf transient [] (half_of first passing transient)
    each false = no_half false first none
    each true = no_half true passing gone

-- the next of the objects in the order of their numbers, behind those that are done
pub record IsNext (objects done : List ImageObject) (object : ImageObject) : Type 0 where
  pub made : IsMade object
  pub new : ¬ Contains (object_numbers done) object.number
  pub count : length done + 1 ≤ length objects
  pub units : units_together done + units_of (value_of object) ≤ units_together objects

map_same : (os : List ImageObject) → map (λ (o : ImageObject). o) os ≡ os
map_same [] = refl
map_same (o ∷ os) = ap (λ rest. o ∷ rest) (map_same os)

pub next_of : (objects sorted done : List ImageObject) (object : ImageObject) → IsDistinct nat_eq (object_numbers objects)
    → AreMade objects → IsPermutation objects sorted → map (λ (o : ImageObject). o) done ≡ take (length done) sorted
    → (length done < length sorted) × (object ≡ get_or sorted (length done) object) → IsNext objects done object
next_of objects sorted done object distinct made moved so_far turn =
    let front : done ≡ take (length done) sorted = sym (map_same done) ∙ so_far in
    let next = sum_by_more (λ (o : ImageObject). units_of (value_of o)) sorted (length done) object turn.0 in
    record {
      made = All-contains IsMade sorted object (All-permutation IsMade objects sorted moved made)
          (subst (Contains sorted) (sym turn.1) (Contains-get_or sorted (length done) object turn.0));
      new = λ there. new_number objects sorted (length done) object distinct moved turn.0 turn.1
          (subst (λ os. Contains (object_numbers os) object.number) front there);
      count = omega (arith, turn.0, length_permutation objects sorted moved);
      units = omega (
        arith,
        ap units_together front,
        next,
        ap (λ (o : ImageObject). units_of (value_of o)) turn.1,
        sum_by-take-le (λ (o : ImageObject). units_of (value_of o)) sorted (length done + 1),
        sum_by-IsPermutation (λ (o : ImageObject). units_of (value_of o)) objects sorted moved,
      );
    }

-- it can be added to its half
pub can_add : (objects done : List ImageObject) (object : ImageObject) (first passing : Objects) → IsNext objects done object
    → AreHalves done first passing → length objects ≤ 1048576 → units_together objects ≤ 4194304
    → CanAdd object (half_of first passing object.transient)
can_add objects done object first passing next halves few units =
    let half = half_of first passing object.transient in
    record {
      made = next.made;
      new = fresh object.transient done half object.number (halves.each object.transient) next.new;
      room = within (len half + 1) (units_in half + units_of (value_of object))
          (omega (arith, smaller len object.transient, halves.count, next.count, few))
          (omega (arith, smaller units_in object.transient, halves.units, next.units, units));
    }
  where
    smaller : (measure : Objects → ℕ) (t : Bool) → measure (half_of first passing t) ≤ measure first + measure passing
    smaller measure true = omega arith
    smaller measure false = omega arith

    within : (a b : ℕ) → a ≤ 1048576 → b ≤ 4194304 → (nat_lt 1048576 a || nat_lt 4194304 b) ≡ false
    within a b p q = ap (λ x. x || nat_lt 4194304 b) (le-ltb 1048576 a p) ∙ le-ltb 4194304 b q

-- so the store isn't full
pub not_full : (why : StoreRefusal) (b : Bool) (r : Result (Unit {0}) StoreRefusal) → (r ≡ Err store.Full) ↔ IsTrue b → b ≡ false
    → r ≡ Err why
    → refusal_by_store why ≡ refusals.NoMemory
not_full store.Full b r full past is = let t : IsTrue b = full.0 is in absurd cc
not_full store.NoMemory b r full past is = refl

-- the refusal that is handed on
pub refused : {X : Type 0} (r : Result X LoadRefusal) (why : LoadRefusal) → IsErrAnd r (λ found. found ≡ why) → why ≡ refusals.NoMemory
    → IfErr r (λ found. found ≡ refusals.NoMemory)
refused (Ok x) why is same = tt
refused (Err found) why is same = is ∙ same

-- when all are done, the halves are those of all objects in whatever order
pub all_halves : (objects sorted done : List ImageObject) (first passing : Objects) → IsPermutation objects sorted
    → map (λ (o : ImageObject). o) done ≡ sorted → AreHalves done first passing → AreHalves objects first passing
all_halves objects sorted done first passing moved whole halves =
    let back : IsPermutation done objects =
    subst (λ os. IsPermutation os objects) (sym (sym (map_same done) ∙ whole)) (IsPermutation-sym objects sorted moved) in
    record {
      each = λ t. moved_half t done objects (half_of first passing t) back (halves.each t);
      count = halves.count ∙ sym (length_permutation done objects back);
      units = halves.units ∙ sym (sum_by-IsPermutation (λ (o : ImageObject). units_of (value_of o)) done objects back);
    }
  where
    moved_among : (transient : Bool) (xs ys : List ImageObject) (n : ℕ) (value : Value) → IsPermutation xs ys → IsAmong transient xs n value
        → IsAmong transient ys n value
    moved_among transient xs ys n value moves among = record {
      object = among.object;
      among = Contains-permutation xs ys among.object moves among.among;
      numbered = among.numbered;
      half = among.half;
      is = among.is;
    }

    moved_half : (transient : Bool) (xs ys : List ImageObject) (half : Objects) → IsPermutation xs ys → IsHalf transient xs half
        → IsHalf transient ys half
    moved_half transient xs ys half moves is = record {
      holds = λ n value among. is.holds n value (moved_among transient ys xs n value (IsPermutation-sym xs ys moves) among);
      only = λ n value e. moved_among transient xs ys n value moves (is.only n value e);
    }
