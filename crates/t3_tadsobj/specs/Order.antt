-- The order in which an object and its superclasses are searched (the chapter on tads-objects).
use Rattle.std.specs.Prelude.{◌≡◌, ℕ, zero, suc, ◌+◌, ◌⊎◌, ◌==◌, if◌then◌else◌, Option, Some, None, List, [], ◌∷◌, Contains}
use Rattle.std.specs.List.{flat_map, list_any}

-- the superclasses of each number from left to right, and none of what isn't a live tads-object
abbrev pub SupersAt : Type 0
SupersAt = ℕ → Option (List ℕ)

-- a number, then the lists of its superclasses from left to right; what isn't live gives nothing
abbrev pub list_from : (ℕ → List ℕ) → ℕ → Option (List ℕ) → List ℕ
list_from list n None = []
list_from list n (Some supers) = n ∷ flat_map list supers

-- the preorder list of a number down to a depth
unfoldable pub preorder : SupersAt → ℕ → ℕ → List ℕ
preorder at zero n = []
preorder at (suc depth) n = list_from (preorder at depth) n (at n)

-- the preorder list of a number: the one that no greater depth changes
pub record IsPreorder (at : SupersAt) (n : ℕ) (list : List ℕ) : Type 0 where
  pub depth : ℕ
  pub is : (more : ℕ) → preorder at (depth + more) n ≡ list

-- each number at its last place only
abbrev pub last_places : List ℕ → List ℕ
last_places [] = []
last_places (n ∷ list) = if list_any (λ m. n == m) list then last_places list else n ∷ last_places list

-- the order of a number: its preorder list, with each number at its last place only
pub record IsLinearOrder (at : SupersAt) (n : ℕ) (order : List ℕ) : Type 0 where
  pub list : List ℕ
  pub preorder : IsPreorder at n list
  pub is : order ≡ last_places list

-- one number is a superclass of the other
pub record IsSuperclass (at : SupersAt) (n above : ℕ) : Type 0 where
  pub supers : List ℕ
  pub are : at n ≡ Some supers
  pub among : Contains supers above

-- a walk from a number to another, each step to a superclass, over these in between
abbrev pub IsWalk : SupersAt → ℕ → List ℕ → ℕ → Type 0
IsWalk at n [] above = IsSuperclass at n above
IsWalk at n (next ∷ path) above = IsSuperclass at n next × IsWalk at next path above

-- a superclass, or a superclass of one, and so on
abbrev pub IsAncestor : SupersAt → ℕ → ℕ → Type 0
IsAncestor at n above = (path : List ℕ) × IsWalk at n path above

-- no walk from the number comes back: neither it nor an ancestor of it is its own ancestor
pub record IsAcyclicFrom (at : SupersAt) (n : ℕ) : Type 0 where
  pub itself : ¬ IsAncestor at n n
  pub ancestors : (above : ℕ) → IsAncestor at n above → ¬ IsAncestor at above above

-- after the number comes each time the only superclass, up to one that has none, or only one that isn't live
abbrev pub IsChain : SupersAt → ℕ → List ℕ → Type 0
IsChain at n [] = (at n ≡ Some []) ⊎ ((missing : ℕ) × (at n ≡ Some (missing ∷ [])) × (at missing ≡ None))
IsChain at n (above ∷ chain) = (at n ≡ Some (above ∷ [])) × IsChain at above chain
