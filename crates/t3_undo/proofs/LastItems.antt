-- The last item of a list, apart from those before it.
use Rattle.std.proofs.Common.{◌≡◌, ◌∙◌, ap, refl, ℕ, ◌+◌, ◌-◌, zero, suc, List, [], ◌∷◌, ◌++◌, length, take, get_or, Option, None, Some, slice_get, arith}
use Rattle.circular_buffer.specs.Buffer.{last_item}

split-last : {X : Type 0} (xs : List X) (i : ℕ) (d : X) → i + 1 ≡ length xs → xs ≡ take i xs ++ get_or xs i d ∷ []
split-last [] i d e = absurd (omega arith)
split-last (x ∷ []) zero d e = refl
split-last (x ∷ y ∷ ys) zero d e = absurd (omega arith)
split-last (x ∷ xs) (suc i) d e = ap (λ zs. x ∷ zs) (split-last xs i d (omega arith))

got : {X : Type 0} (xs : List X) (i : ℕ) (x d : X) → Some x ≡ slice_get xs i → get_or xs i d ≡ x
got [] i x d e = cc
got (y ∷ ys) zero x d e = cc
got (y ∷ ys) (suc i) x d e = got ys i x d e

missed : {X : Type 0} (xs : List X) (i : ℕ) → i + 1 ≡ length xs → None ≡ slice_get xs i → ⊥
missed [] i e n = omega arith
missed (x ∷ xs) zero e n = cc
missed (x ∷ xs) (suc i) e n = missed xs i (omega arith) n

-- a list with a last item
pub last-is : {X : Type 0} (xs : List X) (x : X) → Some x ≡ last_item xs → xs ≡ take (length xs - 1) xs ++ x ∷ []
last-is [] x e = cc
last-is (y ∷ ys) x e =
    split-last (y ∷ ys) (length (y ∷ ys) - 1) x (omega arith)
    ∙ ap (λ z. take (length (y ∷ ys) - 1) (y ∷ ys) ++ z ∷ []) (got (y ∷ ys) (length (y ∷ ys) - 1) x x e)

-- a list without one
pub none-is : {X : Type 0} (xs : List X) → None ≡ last_item xs → xs ≡ []
none-is [] e = refl
none-is (y ∷ ys) e = absurd (missed (y ∷ ys) (length (y ∷ ys) - 1) (omega arith) e)

-- what a last item that is asked for is, where there is one
pub last-of : {X : Type 0} (xs : List X) (result : Option X) → result ≡ last_item xs → (length xs ≡ 0 → ⊥)
    → (x : X) × (result ≡ Some x) × (xs ≡ take (length xs - 1) xs ++ x ∷ [])
last-of xs None e some = absurd (some (ap length (none-is xs e)))
last-of xs (Some x) e some = (x, refl, last-is xs x e)
