-- The arguments of a creation, by how many they are, and so many nils.
use Rattle.std.proofs.Common.{◌≡◌, ℕ, zero, suc, ◌+◌, ◌<◌, List, [], ◌∷◌, ◌++◌, length, get_or, refl, ap, sym, ◌∙◌, arith}
use Rattle.std.specs.Prelude.{replicate}

pub one-argument : {X : Type 0} (xs : List X) (d : X) → length xs ≡ 1 → xs ≡ get_or xs 0 d ∷ []
one-argument [] d is = absurd (omega arith)
one-argument (x ∷ []) d is = refl
one-argument (x ∷ y ∷ xs) d is = absurd (omega arith)

pub two-arguments : {X : Type 0} (xs : List X) (d e : X) → length xs ≡ 2 → xs ≡ get_or xs 0 d ∷ get_or xs 1 e ∷ []
two-arguments [] d e is = absurd (omega arith)
two-arguments (x ∷ []) d e is = absurd (omega arith)
two-arguments (x ∷ y ∷ []) d e is = refl
two-arguments (x ∷ y ∷ z ∷ xs) d e is = absurd (omega arith)

pub more-arguments : {X : Type 0} (xs : List X) → 2 < length xs
    → (x : X) × (y : X) × (z : X) × (rest : List X) × (xs ≡ x ∷ y ∷ z ∷ rest)
more-arguments [] long = absurd (omega arith)
more-arguments (x ∷ []) long = absurd (omega arith)
more-arguments (x ∷ y ∷ []) long = absurd (omega arith)
more-arguments (x ∷ y ∷ z ∷ rest) long = (x, y, z, rest, refl)

-- a nil more
pub replicate-push : {X : Type 0} (n : ℕ) (x : X) → replicate n x ++ x ∷ [] ≡ replicate (n + 1) x
replicate-push zero x = refl
replicate-push (suc n) x =
    let next : suc n + 1 ≡ suc (n + 1) = omega arith in
    ap (λ l. x ∷ l) (replicate-push n x) ∙ ap (λ k. replicate k x) (sym next)
