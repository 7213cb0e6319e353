-- Whether an object is its own ancestor is decided: numbers are taken away of which no superclass is left.
use Rattle.std.proofs.Common.{◌≡◌, ℕ, zero, suc, ◌≤◌, true, false, eqb, ◌⊎◌, inl, inr, ⊎_elim, List, [], ◌∷◌, length, Option, Some, None, refl, sym, ap, subst, arith}
use Rattle.std.specs.Prelude.{Contains, IsSome, MatchOption, is_some}
use Rattle.std.specs.FinMap.{keys}
use Rattle.std.specs.List.{AllByRecursion, list_any}
use Rattle.std.proofs.lemmas.Bool.{cases_Bool, cases_eq, both_ways}
use Rattle.std.proofs.lemmas.List.Elements.{Contains-append_right}
use Rattle.t3_tadsobj.specs.Order.{SupersAt, IsSuperclass, IsAncestor}
use Rattle.t3_tadsobj.proofs.OrderMembers.{Has, Has-here, Has-there, Has-cases, Has-from_contains, without, without-shorter, without-has, each}
use Rattle.t3_tadsobj.proofs.CycleLists.{contains-cons, contains-none, contains-first, all-holds}
use Rattle.t3_tadsobj.proofs.CycleSteps.{onward, steps_none, walks_none}
use Rattle.t3_store.specs.Value.{Objects}
use Rattle.t3_store.specs.Whole.{AreThere, IsAcyclic, IsWhole, supers_in}
use Rattle.t3_store.specs.Inner.Numbers.{has_number}
use Rattle.t3_snapshot.proofs.Decided.{IsDecided, decided_some, decided_all}

-- no ancestor of the number is its own ancestor, and so the number isn't either
abbrev IsSafe : SupersAt → ℕ → Type 0
IsSafe at n = (above : ℕ) → IsAncestor at n above → ¬ IsAncestor at above above

-- what has only safe superclasses is safe
safe_above : (at : SupersAt) (n : ℕ) → ((super : ℕ) → IsSuperclass at n super → IsSafe at super) → IsSafe at n
safe_above at n safe above ([], step) own = safe above step above own own
safe_above at n safe above (next ∷ path, walk) own = safe next walk.0 above (path, walk.1) own

safe_none : (at : SupersAt) (n : ℕ) → at n ≡ None → IsSafe at n
safe_none at n none above walk = absurd (walks_none at n above none walk)

-- ---- not each of finitely many has an ancestor among them

-- an ancestor of the number is in the list
record HasAncestorIn (at : SupersAt) (list : List ℕ) (n : ℕ) : Type 0 where
  pub above : ℕ
  pub walk : IsAncestor at n above
  pub among : Has list above

none_rises : (at : SupersAt) → IsAcyclic at → (list : List ℕ) → ((n : ℕ) → Has list n → HasAncestorIn at list n) → (n : ℕ)
    → Has list n → ⊥
none_rises at acyclic [] rises n has = absurd cc
none_rises at acyclic (x ∷ xs) rises n has = none_rises at acyclic xs rest of_first.above of_first.among
  where
    later_or : (m : ℕ) → HasAncestorIn at (x ∷ xs) m → HasAncestorIn at xs m ⊎ IsAncestor at m x
    later_or m found =
        ⊎_elim
        (λ same. inr (subst (λ (k : ℕ). IsAncestor at m k) same found.walk))
        (λ later. inl (record { above = found.above; walk = found.walk; among = later }))
        (Has-cases x found.above xs found.among)

    of_first : HasAncestorIn at xs x
    of_first = ⊎_elim (λ later. later) (λ own. absurd (acyclic x own)) (later_or x (rises x (Has-here x xs)))

    rest : (m : ℕ) → Has xs m → HasAncestorIn at xs m
    rest m among =
        ⊎_elim
        (λ later. later)
        (λ walk. record {
          above = of_first.above;
          walk = onward at m x of_first.above walk of_first.walk;
          among = of_first.among;
        })
        (later_or m (rises m (Has-there x m xs among)))

-- ---- a number of which no superclass is in a list

-- a superclass of the number is in the list
record HasSuperIn (at : SupersAt) (list : List ℕ) (n : ℕ) : Type 0 where
  pub super : ℕ
  pub step : IsSuperclass at n super
  pub among : Has list super

abbrev HasNoSuperIn : SupersAt → List ℕ → ℕ → Type 0
HasNoSuperIn at list n = (super : ℕ) → IsSuperclass at n super → ¬ Has list super

-- one of these is in the list
abbrev SomeAmong : List ℕ → List ℕ → Type 0
SomeAmong list supers = (super : ℕ) × Contains supers super × Has list super

abbrev NoneAmong : List ℕ → List ℕ → Type 0
NoneAmong list supers = (super : ℕ) → Contains supers super → ¬ Has list super

some_or_none : (list supers : List ℕ) → SomeAmong list supers ⊎ NoneAmong list supers
some_or_none list [] = inr (λ super among has. contains-none super among)
some_or_none list (x ∷ xs) = by (cases_Bool (list_any (λ m. eqb x m) list)) (some_or_none list xs)
  where
    by : (list_any (λ m. eqb x m) list ≡ true) ⊎ (list_any (λ m. eqb x m) list ≡ false) → SomeAmong list xs ⊎ NoneAmong list xs
        → SomeAmong list (x ∷ xs) ⊎ NoneAmong list (x ∷ xs)
    by (inl here) later = inl (x, contains-first x xs, here)
    by (inr not) (inl (super, among, has)) = inl (super, Contains-append_right (x ∷ []) xs super among, has)
    by (inr not) (inr none) = inr (λ super among has.
        ⊎_elim
        (λ same. both_ways (list_any (λ m. eqb x m) list) not (subst (λ (k : ℕ). Has list k) (sym same) has))
        (λ later. none super later has)
        (contains-cons x xs super among))

super_or_none : (at : SupersAt) (list : List ℕ) (n : ℕ) → HasSuperIn at list n ⊎ HasNoSuperIn at list n
super_or_none at list n = by (at n) refl
  where
    by : (o : Option (List ℕ)) → at n ≡ o → HasSuperIn at list n ⊎ HasNoSuperIn at list n
    by None none = inr (λ super step has. steps_none at n super none step)
    by (Some supers) are =
        ⊎_elim
        (λ (found : SomeAmong list supers). inl (record {
          super = found.0;
          step = record { supers = supers; are = are; among = found.1 };
          among = found.2;
        }))
        (λ none. inr (λ super step has.
        let same : step.supers ≡ supers = cc (step.are, are) in
        none super (subst (λ (xs : List ℕ). Contains xs super) same step.among) has))
        (some_or_none list supers)

-- a number of the list of which no superclass is in it
record IsFree (at : SupersAt) (list : List ℕ) (n : ℕ) : Type 0 where
  pub has : Has list n
  pub none : HasNoSuperIn at list n

some_free : (at : SupersAt) (list xs : List ℕ) → ((n : ℕ) → Has xs n → Has list n)
    → ((n : ℕ) × IsFree at list n) ⊎ ((n : ℕ) → Has xs n → HasSuperIn at list n)
some_free at list [] within = inr (λ n has. absurd cc)
some_free at list (x ∷ xs) within =
    by (super_or_none at list x) (some_free at list xs (λ n has. within n (Has-there x n xs has)))
  where
    by : HasSuperIn at list x ⊎ HasNoSuperIn at list x
        → ((n : ℕ) × IsFree at list n) ⊎ ((n : ℕ) → Has xs n → HasSuperIn at list n)
        → ((n : ℕ) × IsFree at list n) ⊎ ((n : ℕ) → Has (x ∷ xs) n → HasSuperIn at list n)
    by (inr none) rest = inl (x, record { has = within x (Has-here x xs); none = none })
    by (inl rises) (inl found) = inl found
    by (inl rises) (inr all) = inr (λ n has.
        ⊎_elim (λ same. subst (HasSuperIn at list) (sym same) rises) (λ later. all n later) (Has-cases x n xs has))

-- ---- numbers are taken away as long as one is free

-- all are safe but those that are left
abbrev AreSafeBut : SupersAt → List ℕ → Type 0
AreSafeBut at list = (n : ℕ) → IsSafe at n ⊎ Has list n

safe_taken : (at : SupersAt) (list : List ℕ) (n : ℕ) → AreSafeBut at list → IsFree at list n → AreSafeBut at (without n list)
safe_taken at list n left free m = by (cases_eq n m) (left m)
  where
    taken : IsSafe at n
    taken = safe_above at n (λ super step. ⊎_elim (λ safe. safe) (λ has. absurd (free.none super step has)) (left super))

    by : (n ≡ m) ⊎ (n ≡ m → ⊥) → IsSafe at m ⊎ Has list m → IsSafe at m ⊎ Has (without n list) m
    by (inl same) known = inl (subst (IsSafe at) same taken)
    by (inr other) (inl safe) = inl safe
    by (inr other) (inr has) = inr (without-has n m list other has)

-- where none is free, one is its own ancestor
none_free : (at : SupersAt) (x : ℕ) (xs : List ℕ) → ((n : ℕ) → Has (x ∷ xs) n → HasSuperIn at (x ∷ xs) n) → ¬ IsAcyclic at
none_free at x xs rises acyclic = none_rises at acyclic (x ∷ xs) above x (Has-here x xs)
  where
    above : (n : ℕ) → Has (x ∷ xs) n → HasAncestorIn at (x ∷ xs) n
    above n has = let found = rises n has in record { above = found.super; walk = ([], found.step); among = found.among }

acyclic_down : (at : SupersAt) (count : ℕ) (list : List ℕ) → length list ≤ count → AreSafeBut at list → IsDecided (IsAcyclic at)
acyclic_down at count [] few left = inl (λ n own. ⊎_elim (λ safe. safe n own own) (λ has. absurd cc) (left n))
acyclic_down at zero (x ∷ xs) few left = absurd (omega arith)
acyclic_down at (suc count) (x ∷ xs) few left =
    by (λ list fewer but. acyclic_down at count list fewer but) (some_free at (x ∷ xs) (x ∷ xs) (λ n has. has))
  where
    by : ((list : List ℕ) → length list ≤ count → AreSafeBut at list → IsDecided (IsAcyclic at))
        → ((n : ℕ) × IsFree at (x ∷ xs) n) ⊎ ((n : ℕ) → Has (x ∷ xs) n → HasSuperIn at (x ∷ xs) n) → IsDecided (IsAcyclic at)
    by others (inl (n, free)) =
        others (without n (x ∷ xs)) (omega (arith, few, without-shorter n (x ∷ xs) free.has)) (safe_taken at (x ∷ xs) n left free)
    by others (inr rises) = inr (none_free at x xs rises)

-- whether any is its own ancestor is decided, where only these have superclasses
pub decided_acyclic : (at : SupersAt) (numbers : List ℕ) → ((n : ℕ) → IsSome (at n) → Contains numbers n) → IsDecided (IsAcyclic at)
decided_acyclic at numbers finite = acyclic_down at (length numbers) numbers (omega arith) (λ n. by n (at n) refl)
  where
    by : (n : ℕ) (o : Option (List ℕ)) → at n ≡ o → IsSafe at n ⊎ Has numbers n
    by n None none = inl (safe_none at n none)
    by n (Some supers) are = inr (Has-from_contains numbers n (finite n (ap is_some are)))

-- ---- superclasses are whole, or not

abbrev HasSupersThere : SupersAt → ℕ → Type 0
HasSupersThere at n = MatchOption (at n) (Unit {0}) (λ supers. AreThere at supers)

decided_there : (at : SupersAt) (n : ℕ) → IsDecided (HasSupersThere at n)
decided_there at n = by (at n)
  where
    by : (o : Option (List ℕ)) → IsDecided (MatchOption o (Unit {0}) (λ supers. AreThere at supers))
    by None = inl tt
    by (Some supers) = decided_all (λ number. IsSome (at number)) (λ number. decided_some (at number)) supers

there_each : (at : SupersAt) → IsWhole at → (n : ℕ) → HasSupersThere at n
there_each at whole n = by (at n) refl
  where
    by : (o : Option (List ℕ)) → at n ≡ o → MatchOption o (Unit {0}) (λ supers. AreThere at supers)
    by None none = tt
    by (Some supers) are = whole.there n supers are

-- whether superclasses of objects are whole is decided
pub decided_whole : (objects : Objects) → IsDecided (IsWhole (supers_in objects))
decided_whole objects =
    by (decided_all (HasSupersThere at) (decided_there at) (keys objects)) (decided_acyclic at (keys objects) (has_number objects))
  where
    at : SupersAt
    at = supers_in objects

    by : IsDecided (AllByRecursion (HasSupersThere at) (keys objects)) → IsDecided (IsAcyclic at) → IsDecided (IsWhole at)
    by (inl all) (inl acyclic) = inl (record { there = there; acyclic = acyclic })
      where
        there : (number : ℕ) (supers : List ℕ) → at number ≡ Some supers → AreThere at supers
        there number supers are =
            subst (λ o. MatchOption o (Unit {0}) (λ supers. AreThere at supers)) are
            (all-holds (HasSupersThere at) (keys objects) number all (has_number objects number (ap is_some are)))
    by (inl all) (inr cyclic) = inr (λ whole. cyclic whole.acyclic)
    by (inr not) acyclic = inr (λ whole. not (each (HasSupersThere at) (keys objects) (λ n among. there_each at whole n)))
