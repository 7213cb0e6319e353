-- Numbers that rise are distinct, and a look at each two neighbours tells whether they rise.
use Rattle.std.proofs.Common.{◌≡◌, ℕ, suc, ◌+◌, ◌<◌, Bool, true, false, List, [], ◌∷◌, length, map, get_or, nat_eq, nat_lt, IsTrue, ◌↔◌, ltb-true, ltb-false, add-one, refl, sym, arith}
use native.Mathlib.Numerals.{unary_clauses}
use Rattle.std.specs.List.{IsDistinct, AllByRecursion, IsAllAdjacentAnswer}
use Rattle.std.specs.List.Sorted.{IsStrictlyIncreasing}
use Rattle.std.proofs.lemmas.Bool.{eqb-true}
use Rattle.std.proofs.lemmas.List.{get_or-map, length-map}
use Rattle.t3_tadsobj.specs.declared.props.PropValue.{PropValue}

differ : (n m : ℕ) → n < m → nat_eq n m ≡ false
differ n m less = by (nat_eq n m) refl
  where
    by : (b : Bool) → nat_eq n m ≡ b → b ≡ false
    by true e = let same = eqb-true n m e in absurd (omega arith)
    by false e = refl

behind_first : (x : ℕ) (xs : List ℕ) → IsStrictlyIncreasing (x ∷ xs) → IsStrictlyIncreasing xs
behind_first x xs rises = λ k less. rw add-one (simp unary_clauses at (rises (suc k) (omega (arith, less))))

-- a number below the first is none of them
below_first : (n x : ℕ) (xs : List ℕ) → n < x → IsStrictlyIncreasing (x ∷ xs) → AllByRecursion (λ y. nat_eq n y ≡ false) (x ∷ xs)
below_first n x [] less rises = (differ n x less, tt)
below_first n x (y ∷ xs) less rises =
    let next = rises 0 (omega arith) in
    (differ n x less, below_first n y xs (omega (arith, next)) (behind_first x (y ∷ xs) rises))

pub distinct_if_rising : (xs : List ℕ) → IsStrictlyIncreasing xs → IsDistinct nat_eq xs
unfolding IsDistinct
distinct_if_rising [] rises = tt
distinct_if_rising (x ∷ []) rises = (tt, tt)
distinct_if_rising (x ∷ y ∷ xs) rises =
    (below_first x y xs (rises 0 (omega arith)) (behind_first x (y ∷ xs) rises), distinct_if_rising (y ∷ xs) (behind_first x (y ∷ xs) rises))

abbrev pub number : PropValue → ℕ
number prop = prop.number

-- what the look tells
pub rising_answer : (props : List PropValue) (d : PropValue) (rises : Bool)
    → IsAllAdjacentAnswer (λ x y b. b ≡ nat_lt (number x) (number y)) props rises → IsTrue rises ↔ IsStrictlyIncreasing (map number props)
rising_answer props d true all = (
  λ _ k less.
      let more : k + 1 < length props = omega (arith, less, length-map props number) in
      let here = get_or-map number props k d 0 (omega arith) in
      let next = get_or-map number props (k + 1) d 0 more in
      let below = ltb-true (number (get_or props k d)) (number (get_or props (k + 1) d)) (sym (all k d more)) in
      omega arith,
  λ _. refl,
)
rising_answer props d false (k, less, apart) = (
  λ t. absurd cc,
  λ rises.
      let here = get_or-map number props k d 0 (omega (arith, less)) in
      let next = get_or-map number props (k + 1) d 0 less in
      let above = ltb-false (number (get_or props k d)) (number (get_or props (k + 1) d)) (sym (apart d)) in
      let below = rises k (omega (arith, less, length-map props number)) in
      absurd (omega arith),
)
