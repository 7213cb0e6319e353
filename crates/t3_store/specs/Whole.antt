-- Superclasses among objects, and what it means that nothing of them is broken.
use Rattle.std.specs.Prelude.{◌≡◌, ◌<◌, ◌≤◌, ◌^◌, ◌⊎◌, ℕ, Bool, if◌then◌else◌, List, None, Some, IsSome, MatchOption, option_and_then}
use Rattle.std.specs.List.{AllByRecursion}
use Rattle.std.specs.FinMap.{get}
use Rattle.t3_tadsobj.specs.Order.{SupersAt, IsAncestor}
use Rattle.t3_store.specs.Value.{Value, Objects, supers_of}
use Rattle.t3_store.specs.Store.{StoreValue, value_at, either}

-- the superclasses of each tads-object among these
abbrev pub supers_in : Objects → SupersAt
supers_in objects number = option_and_then supers_of (get objects number)

-- among two maps, where the first counts
abbrev pub supers_among : Objects → Objects → SupersAt
supers_among first second number = option_and_then supers_of (either (get first number) (get second number))

-- among the live objects of a store
abbrev pub supers_of_live : StoreValue → SupersAt
supers_of_live s number = option_and_then supers_of (value_at s number)

-- among the objects that may be superclasses of a new one, transient or not
abbrev pub supers_for : Bool → StoreValue → SupersAt
supers_for transient s = if transient then supers_of_live s else supers_in s.persistent

-- no number is in both
abbrev pub AreApart : Objects → Objects → Type 0
AreApart first second = (number : ℕ) → IsSome (get first number) → get second number ≡ None

-- these are tads-objects
abbrev pub AreThere : SupersAt → List ℕ → Type 0
AreThere at numbers = AllByRecursion (λ number. IsSome (at number)) numbers

-- the superclasses of a value, if it has any, are tads-objects
abbrev pub HasSupersIn : SupersAt → Value → Type 0
HasSupersIn at value = MatchOption (supers_of value) (Unit {0}) (λ supers. AreThere at supers)

-- no object is its own ancestor
abbrev pub IsAcyclic : SupersAt → Type 0
IsAcyclic at = (number : ℕ) → ¬ IsAncestor at number number

-- each superclass is a tads-object, and no object is its own ancestor
pub record IsWhole (at : SupersAt) : Type 0 where
  pub there : (number : ℕ) (supers : List ℕ) → at number ≡ Some supers → AreThere at supers
  pub acyclic : IsAcyclic at

-- objects have numbers from 1 on that were given: persistent ones below the next number, transient ones below it too, or from
-- 2^31 on and below the next transient number; and no number is in both halves
pub record HasGivenNumbers (s : StoreValue) : Type 0 where
  pub persistent : (number : ℕ) → IsSome (get s.persistent number) → (0 < number) × (number < s.next)
  pub transient : (number : ℕ) → IsSome (get s.transient number) → (0 < number) × ((number < s.next) ⊎ ((2 ^ 31 ≤ number) × (number < s.next_transient)))
  pub apart : AreApart s.persistent s.transient
  pub next : (0 < s.next) × (s.next ≤ 2 ^ 31)
  pub next_transient : (2 ^ 31 ≤ s.next_transient) × (s.next_transient ≤ 2 ^ 32)
