-- What is decided: orders, tests, what holds of each, and whether lists are the same.
use Rattle.std.proofs.Common.{◌≡◌, ℕ, ◌≤◌, Bool, true, false, ◌⊎◌, inl, inr, ⊎_elim, List, [], ◌∷◌, Option, Some, None, IsTrue, IsSome, refl, arith}
use Rattle.std.specs.List.{AllByRecursion}
use Rattle.std.proofs.lemmas.Bool.{cases_lt, cases_eq}

-- it holds, or it doesn't
abbrev pub IsDecided : Type 0 → Type 0
IsDecided P = P ⊎ ¬ P

-- an order of numbers
pub decided_le : (a b : ℕ) → IsDecided (a ≤ b)
decided_le a b = ⊎_elim (λ above. inr (λ le. omega arith)) (λ le. inl le) (cases_lt b a)

-- a test
pub decided_true : (b : Bool) → IsDecided (IsTrue b)
decided_true true = inl refl
decided_true false = inr (λ so. absurd cc)

-- whether there is one
pub decided_some : {X : Type 0} (o : Option X) → IsDecided (IsSome o)
decided_some None = inr (λ so. absurd cc)
decided_some (Some x) = inl refl

-- of each of a list
pub decided_all : {X : Type 0} (P : X → Type 0) → ((x : X) → IsDecided (P x)) → (xs : List X) → IsDecided (AllByRecursion P xs)
decided_all P decided [] = inl tt
decided_all P decided (x ∷ xs) = by (decided x) (decided_all P decided xs)
  where
    by : IsDecided (P x) → IsDecided (AllByRecursion P xs) → IsDecided (AllByRecursion P (x ∷ xs))
    by (inl first) (inl rest) = inl (first, rest)
    by (inl first) (inr not) = inr (λ all. not all.1)
    by (inr not) rest = inr (λ all. not all.0)

-- whether two lists are the same
pub decided_same : (xs ys : List ℕ) → IsDecided (xs ≡ ys)
decided_same [] [] = inl refl
decided_same [] (y ∷ ys) = inr (λ same. absurd cc)
decided_same (x ∷ xs) [] = inr (λ same. absurd cc)
decided_same (x ∷ xs) (y ∷ ys) = by (cases_eq x y) (decided_same xs ys)
  where
    by : (x ≡ y) ⊎ (x ≡ y → ⊥) → IsDecided (xs ≡ ys) → IsDecided (x ∷ xs ≡ y ∷ ys)
    by (inl first) (inl rest) = inl cc
    by (inl first) (inr not) = inr (λ same. not cc)
    by (inr not) rest = inr (λ same. not cc)
