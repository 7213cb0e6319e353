-- The first number that stands twice.
use Rattle.std.proofs.Common.{◌≡◌, ℕ, zero, suc, ◌<◌, Bool, true, false, ◌||◌, List, [], ◌∷◌, ◌++◌, not, length, map, take, drop, get_or, nat_eq, refl, sym, ap, ◌∙◌, arith}
use Rattle.std.specs.Prelude.{Contains}
use Rattle.std.specs.List.{IsDistinct, AllByRecursion, list_any}
use Rattle.std.proofs.lemmas.Bool.{eqb-true, eq-eqb}
use Rattle.std.proofs.lemmas.List.{take-map, get_or-map, length-map}
use Rattle.std.proofs.lemmas.List.Elements.{Contains-append_right}
use Rattle.t3_load.specs.Rules.{IsFirstTwice}

-- a list is what stands before an item, the item, and what stands behind it
pub parts_at : {X : Type 0} (xs : List X) (i : ℕ) (d x : X) → i < length xs → get_or xs i d ≡ x → xs ≡ take i xs ++ x ∷ drop (suc i) xs
parts_at [] i d x less is = absurd (omega arith)
parts_at (y ∷ xs) zero d x less is = ap (λ z. z ∷ xs) is
parts_at (y ∷ xs) (suc i) d x less is = ap (λ rest. y ∷ rest) (parts_at xs i d x (omega arith) is)

-- a number for which a test by equality holds is among them
pub among : (n : ℕ) (ns : List ℕ) → list_any (λ y. nat_eq n y) ns ≡ true → Contains ns n
among n [] e = absurd cc
among n (m ∷ ns) e = by_test (among n ns) (nat_eq n m) refl e
  where
    by_test : (list_any (λ y. nat_eq n y) ns ≡ true → Contains ns n) → (b : Bool) → nat_eq n m ≡ b
        → (b || list_any (λ y. nat_eq n y) ns) ≡ true
        → Contains (m ∷ ns) n
    by_test rest true t e = (0, omega arith, sym (eqb-true n m t))
    by_test rest false t e = Contains-append_right (m ∷ []) ns n (rest e)

-- a number that is among those before it, which are distinct
pub first_twice : {X : Type 0} (number : X → ℕ) (xs : List X) (i : ℕ) (d : X) (keys : List ℕ) (added : Bool) → i < length xs
    → keys ≡ map number (take i xs) → IsDistinct nat_eq keys → added ≡ not (list_any (λ y. nat_eq (number (get_or xs i d)) y) keys)
    → added ≡ false
    → IsFirstTwice (map number xs) (number (get_or xs i d))
first_twice number xs i d keys added less keys_are distinct is absent =
    let n = number (get_or xs i d) in
    let there : list_any (λ y. nat_eq n y) keys ≡ true = by_not (list_any (λ y. nat_eq n y) keys) (sym is ∙ absent) in
    let front : keys ≡ take i (map number xs) = keys_are ∙ sym (take-map number i xs) in
    record {
      before = keys;
      after = drop (suc i) (map number xs);
      is = parts_at (map number xs) i (number d) n (omega (arith, less, length-map xs number)) (get_or-map number xs i d (number d) less)
          ∙ ap (λ before. before ++ n ∷ drop (suc i) (map number xs)) (sym front);
      distinct = distinct;
      twice = among n keys there;
    }
  where
    by_not : (b : Bool) → not b ≡ false → b ≡ true
    by_not true is = refl
    by_not false is = absurd cc

apart_here : (x n : ℕ) (before after : List ℕ) → AllByRecursion (λ y. nat_eq x y ≡ false) (before ++ n ∷ after) → nat_eq x n ≡ false
apart_here x n [] after all = all.0
apart_here x n (b ∷ before) after all = apart_here x n before after all.1

-- distinct numbers have none that stands twice
pub not_twice : (before after : List ℕ) (n : ℕ) → IsDistinct nat_eq (before ++ n ∷ after) → ¬ Contains before n
unfolding IsDistinct
not_twice [] after n distinct there = absurd (omega (arith, there.1))
not_twice (b ∷ before) after n distinct (zero, less, is) =
    let apart : nat_eq b n ≡ false = apart_here b n before after distinct.0 in
    let same : nat_eq b n ≡ true = eq-eqb b n is in
    absurd cc
not_twice (b ∷ before) after n distinct (suc k, less, is) =
    not_twice before after n distinct.1 (k, omega (arith, less), is)
