-- What is decided, and how: both of two, one of two, and whether a number stands twice.
use Rattle.std.proofs.Common.{◌≡◌, ℕ, zero, suc, ◌+◌, ◌≤◌, ◌⊎◌, inl, inr, Bool, true, false, cond, List, [], ◌∷◌, ◌++◌, Option, None, Some, nat_eq, map, append_assoc, refl, sym, subst, arith}
use Rattle.std.specs.Cmp.{nat_eq_equiv}
use Rattle.std.specs.Prelude.{Contains, is_none}
use Rattle.std.specs.List.{IsDistinct, list_any}
use Rattle.std.proofs.lemmas.Bool.{cases_eq, cases_lt}
use Rattle.std.proofs.lemmas.List.{append-nil}
use Rattle.std.proofs.lemmas.List.Elements.{Contains-append_right}
use Rattle.std.proofs.lemmas.Map.Keys.{IsDistinct-push}
use Rattle.t3_load.specs.Names.{unknown_from}
use Rattle.t3_load.specs.Rules.{IsFirstTwice}
use Rattle.t3_load.proofs.Firsts.{among}

pub both : {A B : Type 0} → A ⊎ ¬ A → B ⊎ ¬ B → (A × B) ⊎ ¬ (A × B)
both (inl a) (inl b) = inl (a, b)
both (inl a) (inr not_b) = inr (λ ab. not_b ab.1)
both (inr not_a) b = inr (λ ab. not_a ab.0)

neither : (A B : Type 0) → ¬ A → ¬ B → ¬ (A ⊎ B)
neither A B not_a not_b (inl a) = not_a a
neither A B not_a not_b (inr b) = not_b b

pub either : {A B : Type 0} → A ⊎ ¬ A → B ⊎ ¬ B → (A ⊎ B) ⊎ ¬ (A ⊎ B)
either (inl a) b = inl (inl a)
either (inr not_a) (inl b) = inl (inr b)
either {A = A} {B = B} (inr not_a) (inr not_b) = inr (neither A B not_a not_b)

pub le_or_not : (m n : ℕ) → (m ≤ n) ⊎ ¬ (m ≤ n)
le_or_not m n =
    elim (cases_lt n m) [
      | inl less ↦ inr (λ h. absurd (omega arith))
      | inr h ↦ inl h
    ]

pub bool_or_not : (b : Bool) → (b ≡ true) ⊎ ¬ (b ≡ true)
bool_or_not true = inl refl
bool_or_not false = inr (λ e. absurd cc)

pub empty_or_not : {X : Type 0} (items : List X) → (items ≡ []) ⊎ ¬ (items ≡ [])
empty_or_not [] = inl refl
empty_or_not (x ∷ items) = inr (λ e. absurd cc)

not_there : (m : ℕ) (ns : List ℕ) (n : ℕ) → ¬ (m ≡ n) → ¬ Contains ns n → ¬ Contains (m ∷ ns) n
not_there m ns n apart none (zero, less, is) = apart is
not_there m ns n apart none (suc k, less, is) = none (k, omega (arith, less), is)

-- a number is among these or not
pub contains_or_not : (ns : List ℕ) (n : ℕ) → Contains ns n ⊎ ¬ Contains ns n
contains_or_not [] n = inr (λ there. absurd (omega (arith, there.1)))
contains_or_not (m ∷ ns) n =
    elim (cases_eq m n) [
      | inl same ↦ inl (0, omega arith, same)
      | inr apart ↦ elim (contains_or_not ns n) [
        | inl there ↦ inl (Contains-append_right (m ∷ []) ns n there)
        | inr none ↦ inr (not_there m ns n apart none)
      ]
    ]

-- the first number that stands a second time, or all are distinct
pub twice_or_distinct : (front rest : List ℕ) → IsDistinct nat_eq front
    → ((n : ℕ) × IsFirstTwice (front ++ rest) n) ⊎ IsDistinct nat_eq (front ++ rest)
twice_or_distinct front [] distinct = inr (subst (IsDistinct nat_eq) (sym (append-nil front)) distinct)
twice_or_distinct front (n ∷ rest) distinct =
    by_test (λ more. twice_or_distinct (front ++ n ∷ []) rest more) (list_any (nat_eq n) front) refl
  where
    by_test : (IsDistinct nat_eq (front ++ n ∷ [])
        → ((m : ℕ) × IsFirstTwice ((front ++ n ∷ []) ++ rest) m) ⊎ IsDistinct nat_eq ((front ++ n ∷ []) ++ rest))
        → (b : Bool) → list_any (nat_eq n) front ≡ b
        → ((m : ℕ) × IsFirstTwice (front ++ n ∷ rest) m) ⊎ IsDistinct nat_eq (front ++ n ∷ rest)
    by_test further true e =
        inl (n, record { before = front; after = rest; is = refl; distinct = distinct; twice = among n front e })
    by_test further false e =
        subst (λ xs. ((m : ℕ) × IsFirstTwice xs m) ⊎ IsDistinct nat_eq xs) (append_assoc front (n ∷ []) rest)
        (further (IsDistinct-push nat_eq_equiv front n distinct e))

none_distinct : IsDistinct nat_eq []
unfolding IsDistinct
none_distinct = tt

pub numbers_or_twice : (numbers : List ℕ) → ((n : ℕ) × IsFirstTwice numbers n) ⊎ IsDistinct nat_eq numbers
numbers_or_twice numbers = twice_or_distinct [] numbers none_distinct

-- all items of a list mean something
pub all_known : {Item Entry : Type 0} (meaning : Item → Option Entry) (items : List Item) (at : ℕ)
    → unknown_from meaning at items ≡ None → (entries : List Entry) × (map meaning items ≡ map Some entries)
all_known meaning [] at e = ([], refl)
all_known {Entry = Entry} meaning (item ∷ items) at e = by_meaning (λ e. all_known meaning items (at + 1) e) (meaning item) refl e
  where
    by_meaning : (unknown_from meaning (at + 1) items ≡ None → (entries : List Entry) × (map meaning items ≡ map Some entries))
        → (m : Option Entry) → meaning item ≡ m → cond (is_none m) (Some at) (unknown_from meaning (at + 1) items) ≡ None
        → (entries : List Entry) × (meaning item ∷ map meaning items ≡ map Some entries)
    by_meaning further None is e = absurd cc
    by_meaning further (Some entry) is e = let rest = further e in (entry ∷ rest.0, λ i. is i ∷ rest.1 i)
