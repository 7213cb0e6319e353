-- What a list has, by a test that computes. Other crates may use these.
use Rattle.std.proofs.Common.{◌≡◌, ◌≢◌, ℕ, zero, suc, ◌<◌, ◌≤◌, true, false, cond, eqb, ◌⊎◌, inl, inr, ⊎_elim, List, [], ◌∷◌, ◌++◌, length, sym, refl, ◌∙◌, subst, arith, ◌||◌}
use Rattle.std.specs.List.{list_any, AllByRecursion, Contains}
use Rattle.std.proofs.lemmas.Bool.{eq-eqb}
use Rattle.std.proofs.lemmas.Bool.Decides.{eqb_tells}
use Rattle.std.proofs.lemmas.List.Elements.{Contains-append_right}
use Rattle.std.proofs.lemmas.List.Folds.{list_any-append}
use Rattle.t3_tadsobj.specs.Order.{last_places}

-- the number is in the list
abbrev pub Has : List ℕ → ℕ → Type 0
Has list n = list_any (λ m. eqb n m) list ≡ true

pub Has-here : (n : ℕ) (list : List ℕ) → Has (n ∷ list) n
Has-here n list = rw (eq-eqb n n refl) refl

pub Has-there : (m n : ℕ) (list : List ℕ) → Has list n → Has (m ∷ list) n
Has-there m n list has = elim (eqb n m) as (λ b. (b || list_any (λ k. eqb n k) list) ≡ true) [ true ↦ refl | false ↦ has ]

pub Has-cases : (m n : ℕ) (list : List ℕ) → Has (m ∷ list) n → (n ≡ m) ⊎ Has list n
Has-cases m n list has =
    ⊎_elim (λ same. inl same.1) (λ other. inr (rw other.0 at has)) (eqb_tells n m)

pub Has-left : (xs ys : List ℕ) (n : ℕ) → Has xs n → Has (xs ++ ys) n
Has-left xs ys n has = rw (list_any-append (λ m. eqb n m) xs ys, has) refl

pub Has-right : (xs ys : List ℕ) (n : ℕ) → Has ys n → Has (xs ++ ys) n
Has-right [] ys n has = has
Has-right (x ∷ xs) ys n has = Has-there x n (xs ++ ys) (Has-right xs ys n has)

pub Has-either : (xs ys : List ℕ) (n : ℕ) → Has (xs ++ ys) n → Has xs n ⊎ Has ys n
Has-either [] ys n has = inr has
Has-either (x ∷ xs) ys n has =
    ⊎_elim
    (λ same. inl (subst (λ (k : ℕ). Has (x ∷ xs) k) (sym same) (Has-here x xs)))
    (λ later. ⊎_elim (λ left. inl (Has-there x n xs left)) (λ right. inr right) (Has-either xs ys n later))
    (Has-cases x n (xs ++ ys) has)

pub Has-from_contains : (list : List ℕ) (n : ℕ) → Contains list n → Has list n
Has-from_contains [] n (k, less, is) = absurd (omega arith)
Has-from_contains (m ∷ list) n (zero, less, is) = subst (λ (j : ℕ). Has (m ∷ list) j) is (Has-here m list)
Has-from_contains (m ∷ list) n (suc k, less, is) = Has-there m n list (Has-from_contains list n (k, omega arith, is))

-- what holds of whatever a list contains holds of each
pub each : {X : Type 0} (P : X → Type 0) (xs : List X) → ((x : X) → Contains xs x → P x) → AllByRecursion P xs
each P [] holds = tt
each P (x ∷ xs) holds = (holds x (0, omega arith, refl), each P xs (λ y among. holds y (Contains-append_right (x ∷ []) xs y among)))

pub weaker : {X : Type 0} (P Q : X → Type 0) → ((x : X) → P x → Q x) → (xs : List X) → AllByRecursion P xs → AllByRecursion Q xs
weaker P Q gives [] all = tt
weaker P Q gives (x ∷ xs) all = (gives x all.0, weaker P Q gives xs all.1)

pub both : {X : Type 0} (P : X → Type 0) (xs ys : List X) → AllByRecursion P xs → AllByRecursion P ys → AllByRecursion P (xs ++ ys)
both P [] ys left right = right
both P (x ∷ xs) ys left right = (left.0, both P xs ys left.1 right)

pub left_of : {X : Type 0} (P : X → Type 0) (xs ys : List X) → AllByRecursion P (xs ++ ys) → AllByRecursion P xs
left_of P [] ys all = tt
left_of P (x ∷ xs) ys all = (all.0, left_of P xs ys all.1)

pub right_of : {X : Type 0} (P : X → Type 0) (xs ys : List X) → AllByRecursion P (xs ++ ys) → AllByRecursion P ys
right_of P [] ys all = all
right_of P (x ∷ xs) ys all = right_of P xs ys all.1

-- ---- a list without a number

abbrev pub without : ℕ → List ℕ → List ℕ
without n [] = []
without n (m ∷ list) = cond (eqb n m) (without n list) (m ∷ without n list)

without-no_longer : (n : ℕ) (list : List ℕ) → length (without n list) ≤ length list
without-no_longer n [] = omega arith
without-no_longer n (m ∷ list) =
    let rest = without-no_longer n list in
    elim (eqb n m) as (λ b. length (cond b (without n list) (m ∷ without n list)) ≤ suc (length list))
    [ true ↦ omega arith | false ↦ omega arith ]

pub without-shorter : (n : ℕ) (list : List ℕ) → Has list n → length (without n list) < length list
without-shorter n [] has = absurd cc
without-shorter n (m ∷ list) has =
    let least = without-no_longer n list in
    ⊎_elim
    (λ same. rw same.0 (omega arith))
    (λ other. let rest : length (without n list) < length list = without-shorter n list (rw other.0 at has) in rw other.0 (omega arith))
    (eqb_tells n m)

pub without-has : (n k : ℕ) (list : List ℕ) → n ≢ k → Has list k → Has (without n list) k
without-has n k [] differ has = has
without-has n k (m ∷ list) differ has =
    ⊎_elim
    (λ same. rw same.0 (⊎_elim (λ here. absurd (differ (same.1 ∙ sym here))) (λ later. without-has n k list differ later)
    (Has-cases m k list has)))
    (λ other. rw other.0 (⊎_elim
    (λ here. subst (λ (j : ℕ). Has (m ∷ without n list) j) (sym here) (Has-here m (without n list)))
    (λ later. Has-there m k (without n list) (without-has n k list differ later))
    (Has-cases m k list has)))
    (eqb_tells n m)

-- ---- last places

-- numbers that come again later are left out
pub last_places-again : (xs list : List ℕ) → AllByRecursion (Has list) xs → last_places (xs ++ list) ≡ last_places list
last_places-again [] list all = refl
last_places-again (x ∷ xs) list all = rw (Has-right xs list x all.0) (last_places-again xs list all.1)

pub last_places-new : (n : ℕ) (list : List ℕ) → list_any (λ m. eqb n m) list ≡ false → last_places (n ∷ list) ≡ n ∷ last_places list
last_places-new n list absent = rw absent refl
