-- Objects that are their own ancestors.
use Rattle.std.specs.Prelude.{◌≡◌, ℕ, Option, None, Some, List, ◌∷◌, ◌++◌, Contains}
use Rattle.t3_tadsobj.specs.Order.{SupersAt, IsAncestor}

-- none of these numbers is its own ancestor
abbrev pub HasNoCyclic : SupersAt → List ℕ → Type 0
HasNoCyclic at numbers = (n : ℕ) → Contains numbers n → ¬ IsAncestor at n n

-- the number stands among these and is its own ancestor, and none before it is
pub record IsFirstAmong (at : SupersAt) (numbers : List ℕ) (n : ℕ) : Type 0 where
  pub before : List ℕ
  pub after : List ℕ
  pub are : numbers ≡ before ++ n ∷ after
  pub none_before : HasNoCyclic at before
  pub itself : IsAncestor at n n

-- the first of these numbers that is its own ancestor, or that there is none
abbrev pub IsFirstCyclic : SupersAt → List ℕ → Option ℕ → Type 0
IsFirstCyclic at numbers None = HasNoCyclic at numbers
IsFirstCyclic at numbers (Some n) = IsFirstAmong at numbers n
