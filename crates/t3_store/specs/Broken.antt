-- What is broken of superclasses: that one isn't a tads-object here, or that an object is its own ancestor.
use Rattle.std.specs.Prelude.{◌≡◌, ◌<◌, ℕ, Bool, nat_lt, List, [], length, Option, None, Some}
use Rattle.t3_tadsobj.specs.Order.{SupersAt, IsSuperclass, IsAncestor}
use Rattle.t3_store.specs.Whole.{IsAcyclic}
use Rattle.t3_store.specs.declared.broken.Broken.{Broken}
use Rattle.t3_store.specs.declared.broken.Broken.TheVariants.{Missing, Cycle}

-- a superclass of the object isn't a tads-object here
pub record LacksSuper (at : SupersAt) (number : ℕ) : Type 0 where
  pub above : ℕ
  pub step : IsSuperclass at number above
  pub missing : at above ≡ None

-- the object is its own ancestor
abbrev pub IsOwnAncestor : SupersAt → ℕ → Type 0
IsOwnAncestor at number = IsAncestor at number number

-- no number is so
abbrev pub IsNever : (ℕ → Type 0) → Type 0
IsNever P = (number : ℕ) → ¬ P number

-- this is the least number that is so
abbrev pub IsLeast : (ℕ → Type 0) → ℕ → Type 0
IsLeast P number = P number × ((smaller : ℕ) → smaller < number → ¬ P smaller)

-- the least number of an object that lacks a superclass; if none does, the least that is its own ancestor; and nothing where
-- neither is
abbrev pub IsFirstBroken : SupersAt → Option (ℕ × Broken) → Type 0
IsFirstBroken at None = IsNever (LacksSuper at) × IsAcyclic at
IsFirstBroken at (Some (number, Missing)) = IsLeast (LacksSuper at) number
IsFirstBroken at (Some (number, Cycle)) = IsNever (LacksSuper at) × IsLeast (IsOwnAncestor at) number

-- the superclasses of an object, and none where it isn't a tads-object
abbrev pub supers_or_none : Option (List ℕ) → List ℕ
supers_or_none None = []
supers_or_none (Some supers) = supers

-- the object has a superclass
abbrev pub has_superclass : SupersAt → ℕ → Bool
has_superclass at number = nat_lt 0 (length (supers_or_none (at number)))
