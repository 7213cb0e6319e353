-- A walk over components, as it stands between two steps.
use Rattle.std.specs.Prelude.{◌≡◌, ℕ, ◌<◌, ◌≤◌, ◌+◌, ◌⊎◌, Bool, true, false, List, [], ◌∷◌, Some, length, slice_get, Contains}
use Rattle.std.specs.List.{AllByRecursion}
use Rattle.t3_tadsobj.specs.Order.{SupersAt, IsSuperclass, IsAncestor}
use Rattle.t3_tadsobj.specs.declared.cycles.Mark.TheVariants.{Open, Done}
use Rattle.t3_tadsobj.specs.declared.cycles.Task.{Task}
use Rattle.t3_tadsobj.specs.declared.cycles.Task.TheVariants.{Look, Leave}
use Rattle.t3_tadsobj.specs.declared.cycles.Component.{Component}
use Rattle.t3_tadsobj.specs.Inner.ComponentSteps.{Marked}

-- the number stands at this place of the path
abbrev pub IsAt : List ℕ → ℕ → ℕ → Type 0
IsAt path place n = slice_get path place ≡ Some n

-- no component starts above the first place and not above the second
abbrev pub HasNoStart : List Component → ℕ → ℕ → Type 0
HasNoStart components low high = (c : Component) → Contains components c → low < c.start → c.start ≤ high → ⊥

-- a component that is cyclic starts no later than the one place, and the other isn't above it
pub record IsInCycle (components : List Component) (low high : ℕ) : Type 0 where
  pub component : Component
  pub among : Contains components component
  pub cyclic : component.cyclic ≡ true
  pub starts : component.start ≤ low
  pub within : HasNoStart components component.start high

-- the superclass was looked at, and stands above the number, or in its component or above it
pub record IsAbove (path : List ℕ) (components : List Component) (place above : ℕ) : Type 0 where
  pub stands : ℕ
  pub is : IsAt path stands above
  pub higher : (place < stands) ⊎ IsInCycle components stands place

-- the place of a task's number
abbrev pub place_of : Task → ℕ
place_of (Look place above) = place
place_of (Leave place) = place

-- the places of the tasks below are lower than this
abbrev pub limit_of : Task → ℕ
limit_of (Look place above) = place + 1
limit_of (Leave place) = place

-- later tasks have higher places
abbrev pub AreRising : List Task → Type 0
AreRising [] = Unit {0}
AreRising (task ∷ tasks) = AllByRecursion (λ later. place_of task < limit_of later) tasks × AreRising tasks

-- later components start at higher places
abbrev pub StartRising : List Component → Type 0
StartRising [] = Unit {0}
StartRising (c ∷ components) = AllByRecursion (λ later. c.start < later.start) components × StartRising components

-- what holds of a walk between two steps
pub record IsWalking (at : SupersAt) (f : Marked) (path : List ℕ) (components : List Component) (tasks : List Task) : Type 0 where
  pub open_are : (n p : ℕ) → f n ≡ Some (Open p) → IsAt path p n
  pub are_open : (n p : ℕ) → IsAt path p n → f n ≡ Some (Open p)
  pub first : 0 < length path → (c : Component) × Contains components c × (c.start ≡ 0)
  pub starts : StartRising components
  pub rising : AreRising tasks
  pub steps : (p above n : ℕ) → Contains tasks (Look p above) → IsAt path p n → IsSuperclass at n above
  pub placed : (task : Task) → Contains tasks task → place_of task < length path
  pub roots : (c : Component) → Contains components c → Contains tasks (Leave c.start)
  pub reach : (p q n m : ℕ) → IsAt path p n → IsAt path q m → HasNoStart components q p → (n ≡ m) ⊎ IsAncestor at n m
  pub cycles : (c : Component) (n : ℕ) → Contains components c → c.cyclic ≡ true → IsAt path c.start n → IsAncestor at n n
  pub looked : (p n above : ℕ) → IsAt path p n → IsSuperclass at n above
      → Contains tasks (Look p above) ⊎ (((cyclic : Bool) × (f above ≡ Some (Done cyclic))) ⊎ IsAbove path components p above)
  pub closed : (n above : ℕ) (cyclic : Bool) → f n ≡ Some (Done cyclic) → IsSuperclass at n above
      → (c : Bool) × (f above ≡ Some (Done c))
  pub true_cycles : (n : ℕ) → f n ≡ Some (Done true) → IsAncestor at n n
  pub false_cycles : (n : ℕ) → f n ≡ Some (Done false) → IsAncestor at n n → ⊥

-- a walk with nothing left to do
pub record IsAtRest (at : SupersAt) (f : Marked) (path : List ℕ) (components : List Component) (tasks : List Task) : Type 0 where
  pub walks : IsWalking at f path components tasks
  pub rests : tasks ≡ []
