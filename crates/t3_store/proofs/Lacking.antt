-- An object lacks a superclass exactly where a search among its superclasses finds one that isn't there.
use Rattle.std.proofs.Common.{◌≡◌, ◌∙◌, ap, sym, subst, refl, ℕ, Bool, true, false, ◌||◌, ⊎_elim, List, [], ◌∷◌, Option, None, Some, true≢false, arith}
use Rattle.std.specs.Prelude.{Contains, is_none}
use Rattle.std.specs.List.{list_any}
use Rattle.std.proofs.lemmas.List.Elements.{Contains-append_right}
use Rattle.t3_tadsobj.specs.Order.{SupersAt}
use Rattle.t3_tadsobj.proofs.OrderMembers.{Has, Has-cases, Has-from_contains}
use Rattle.t3_store.specs.Broken.{LacksSuper}

or-right : (a b : Bool) → b ≡ true → (a || b) ≡ true
or-right true b e = refl
or-right false b e = e

any-of : (p : ℕ → Bool) (xs : List ℕ) (a : ℕ) → Has xs a → p a ≡ true → list_any p xs ≡ true
any-of p [] a has e = absurd (true≢false (sym has))
any-of p (x ∷ xs) a has e =
    ⊎_elim
    (λ same. ap (λ b. b || list_any p xs) (subst (λ (k : ℕ). p k ≡ true) same e))
    (λ later. or-right (p x) (list_any p xs) (any-of p xs a later e))
    (Has-cases x a xs has)

exists-of : (p : ℕ → Bool) (xs : List ℕ) → list_any p xs ≡ true → (a : ℕ) × Contains xs a × (p a ≡ true)
exists-of p [] e = absurd (true≢false (sym e))
exists-of p (x ∷ xs) e = by (exists-of p xs) (p x) refl e
  where
    by : (list_any p xs ≡ true → (a : ℕ) × Contains xs a × (p a ≡ true)) → (b : Bool) → p x ≡ b → (b || list_any p xs) ≡ true
        → (a : ℕ) × Contains (x ∷ xs) a × (p a ≡ true)
    by rest true is e = (x, (0, omega arith, refl), is)
    by rest false is e = let found = rest e in (found.0, Contains-append_right (x ∷ []) xs found.0 found.1, found.2)

none-is : (o : Option (List ℕ)) → is_none o ≡ true → o ≡ None
none-is None e = refl
none-is (Some supers) e = absurd (true≢false (sym e))

pub lacks-some : (at : SupersAt) (n : ℕ) (supers : List ℕ) (b : Bool) → at n ≡ Some supers → b ≡ list_any (λ s. is_none (at s)) supers
    → ((b ≡ true → LacksSuper at n) × (LacksSuper at n → b ≡ true))
lacks-some at n supers b are is = (
  λ t. (
      let found = exists-of (λ s. is_none (at s)) supers (sym is ∙ t) in
      record {
        above = found.0;
        step = record { supers = supers; are = are; among = found.1 };
        missing = none-is (at found.0) found.2;
      }
      ),
  λ lacks. (
      let same : supers ≡ lacks.step.supers = cc (are, lacks.step.are) in
      let has : Has supers lacks.above = Has-from_contains supers lacks.above
      (subst (λ (xs : List ℕ). Contains xs lacks.above) (sym same) lacks.step.among) in
      is ∙ any-of (λ s. is_none (at s)) supers lacks.above has (ap is_none lacks.missing)
      ),
)
