-- Superclasses among a store's objects, by their shapes, and what stays true of them.
use Rattle.std.specs.Prelude.{◌≡◌, ◌<◌, ◌^◌, ℕ, List, Option, None, Some}
use Rattle.std.specs.List.{AllByRecursion}
use Rattle.std.specs.FinMap.{get}
use Rattle.t3_undo.specs.Content.{Parts}
use Rattle.t3_undo.specs.Objects.{Objects, Segment}
use Rattle.t3_tadsobj.specs.Order.{SupersAt}
use Rattle.t3_store.specs.Store.{either}
use Rattle.t3_store.specs.Whole.{AreThere, IsAcyclic}
use Rattle.t3_store.specs.Inner.Shapes.{Shape, TadsShape, TextShape, ItemsShape, VectorShape, TableShape}

abbrev pub supers_by_shape : Shape → Option (List ℕ)
supers_by_shape (TadsShape supers class) = Some supers
supers_by_shape (TextShape bytes) = None
supers_by_shape (ItemsShape items) = None
supers_by_shape VectorShape = None
supers_by_shape TableShape = None

abbrev pub supers_by : Option (Shape × Parts) → Option (List ℕ)
supers_by None = None
supers_by (Some thing) = supers_by_shape thing.0

-- the superclasses of each tads-object among these, and among both halves
abbrev pub supers_from : Objects Shape → SupersAt
supers_from things number = supers_by (get things number)

abbrev pub supers_of_both : Objects Shape → Objects Shape → SupersAt
supers_of_both persistent transient number = supers_by (either (get persistent number) (get transient number))

-- the number was given: it is below the next one of its half
abbrev pub IsGiven : ℕ → ℕ → ℕ → Type 0
IsGiven next next_transient number = (number < 2 ^ 31 → number < next) × (number < next_transient)

abbrev pub AreGiven : ℕ → ℕ → List ℕ → Type 0
AreGiven next next_transient numbers = AllByRecursion (IsGiven next next_transient) numbers

-- of the objects below the number, the superclasses are below it too
abbrev pub AreOlder : SupersAt → ℕ → Type 0
AreOlder at next = (number : ℕ) (supers : List ℕ) → number < next → at number ≡ Some supers → AllByRecursion (λ above. above < next) supers

-- and so at each savepoint
abbrev pub AreOlderSupers : SupersAt → List Segment → Type 0
AreOlderSupers at segments = AllByRecursion (λ segment. AreOlder at segment.next) segments

-- superclasses of persistent objects are persistent tads-objects, also once savepoints were gone back to; no superclass has a
-- number that wasn't given; and no object is its own ancestor
pub record AreWhole (at both : SupersAt) (next next_transient : ℕ) (segments : List Segment) : Type 0 where
  pub there : (number : ℕ) (supers : List ℕ) → at number ≡ Some supers → AreThere at supers
  pub older : AreOlderSupers at segments
  pub given : (number : ℕ) (supers : List ℕ) → both number ≡ Some supers → AreGiven next next_transient supers
  pub acyclic : IsAcyclic both
