-- How many places objects have, and which stay once one is purged.
use Rattle.std.specs.Prelude.{◌≡◌, ◌≢◌, ◌<◌, ◌≤◌, ◌⊎◌, ℕ, ◌+◌, ◌*◌, Bool, true, List, [], ◌∷◌, Option, None, Some, IsSome}
use Rattle.std.specs.List.{list_any}
use Rattle.std.specs.Ordering.{nat_cmp, eq_by_cmp}
use Rattle.std.specs.FinMap.{get, len, empty}
use Rattle.t3_undo.specs.Content.{Parts, Places, places_for}
use Rattle.t3_undo.specs.Objects.{Objects, OldPart, Segment, part_at, is_noted, before}
use Rattle.t3_undo.specs.Purging.{Stays}
use Rattle.t3_undo.specs.Stamps.{HasRecord}
use Rattle.t3_undo.specs.declared.cell.Cell.{Cell}
use Rattle.t3_undo.specs.declared.cell.Cell.TheVariants as cells
use Rattle.t3_store.specs.Inner.Shapes.{Shape, Stored, with_place}

abbrev pub parts_of : Option (Shape × Parts) → Parts
parts_of None = empty
parts_of (Some thing) = thing.1

-- what stands in the present cells of an object
abbrev pub parts_under : Objects Shape → ℕ → Parts
parts_under things number = parts_of (get things number)

-- each object has a place with stamp 0 for each present cell, and no other
abbrev pub HaveFreshPlaces : Stored → Type 0
HaveFreshPlaces stored = (number : ℕ) (own : Places) → get stored.places number ≡ Some own
    → own ≡ places_for (parts_under stored.objects number)

-- there are at most twice as many places as present cells and records that a journal may have, and 16
abbrev pub IsBounded : ℕ → Parts → Places → Type 0
IsBounded records parts places = len places ≤ 2 * (len parts + records) + 16

-- so it is with each object
abbrev pub AreBounded : ℕ → Stored → Type 0
AreBounded records stored = (number : ℕ) (own : Places) → get stored.places number ≡ Some own
    → IsBounded records (parts_under stored.objects number) own

-- and so with each but this
abbrev pub AreOthersBounded : ℕ → ℕ → Stored → Type 0
AreOthersBounded records number stored = (other : ℕ) (own : Places) → other ≢ number → get stored.places other ≡ Some own
    → IsBounded records (parts_under stored.objects other) own

-- of an object that is looked at by its places, none is lost that stays, and there are few, or only such as stay
pub record IsTidied (records oldest : ℕ) (parts : Parts) (old new : Places) : Type 0 where
  pub fewer : (cell : Cell) (stamp : ℕ) → get new cell ≡ Some stamp → get old cell ≡ Some stamp
  pub kept : (cell : Cell) (stamp : ℕ) → get old cell ≡ Some stamp → Stays parts old oldest cell → get new cell ≡ Some stamp
  pub few : IsBounded records parts new ⊎ ((cell : Cell) → IsSome (get new cell) → Stays parts old oldest cell)

-- so it is with one object, and all else stays
pub record IsTidiedAt (records oldest number : ℕ) (old new : Stored) : Type 0 where
  pub objects : new.objects ≡ old.objects
  pub ticks : new.ticks ≡ old.ticks
  pub others : (other : ℕ) → other ≢ number → get new.places other ≡ get old.places other
  pub own : (was : Places) → get old.places number ≡ Some was
      → (is : Places) × (get new.places number ≡ Some is) × IsTidied records oldest (parts_under old.objects number) was is
  pub none : get old.places number ≡ None → get new.places number ≡ None

-- a place was made for a cell that was absent, and none for one that was present
abbrev pub IsPlaceMade : Stored → Stored → ℕ → Cell → Type 0
IsPlaceMade old new number cell =
    (IsSome (part_at old.objects number cell) × (new.places ≡ old.places))
    ⊎ ((part_at old.objects number cell ≡ None) × (new.places ≡ with_place number cell old.places))

-- so it was, and the cell is present now
pub record IsPlaced (old new : Stored) (number : ℕ) (cell : Cell) : Type 0 where
  pub present : IsSome (part_at new.objects number cell)
  pub made : IsPlaceMade old new number cell

-- each element below the cell is present
abbrev pub IsFilledBelow : Objects Shape → ℕ → Cell → Type 0
IsFilledBelow things number cell =
    (lower higher : ℕ) → cell ≡ cells.Elem higher → 0 < lower → lower < higher → IsSome (part_at things number (cells.Elem lower))

-- below an element that a savepoint has a record of, each was present at the savepoint or has a record too
abbrev pub HasNoGap : Objects Shape → Segment → Type 0
HasNoGap things segment =
    (number lower higher : ℕ) → 0 < lower → lower < higher → is_noted number (cells.Elem higher) segment.records ≡ true
    → IsSome (part_at (before things segment) number (cells.Elem lower)) ⊎ (is_noted number (cells.Elem lower) segment.records ≡ true)

-- so it is with each savepoint
abbrev pub HaveNoGaps : Objects Shape → List Segment → Type 0
HaveNoGaps things [] = Unit {0}
HaveNoGaps things (segment ∷ segments) = HasNoGap things segment × HaveNoGaps (before things segment) segments

-- an absent element below one that is present or has a record has one
abbrev pub IsWithoutGaps : ℕ → Parts → List Segment → Type 0
IsWithoutGaps number parts segments =
    (lower higher : ℕ) → 0 < lower → lower < higher → get parts (cells.Elem lower) ≡ None
    → IsSome (get parts (cells.Elem higher)) ⊎ HasRecord number (cells.Elem higher) segments → HasRecord number (cells.Elem lower) segments

-- one of the records is of this object
abbrev pub is_recorded : ℕ → List OldPart → Bool
is_recorded number parts = list_any (λ part. eq_by_cmp nat_cmp number part.number) parts

-- what the bound of places rests on in a store: no savepoint has a gap in its records, and each object has few places
pub record HaveFewPlaces (persistent transient : Stored) (records : ℕ) (segments : List Segment) : Type 0 where
  pub gaps : HaveNoGaps persistent.objects segments
  pub few : AreBounded records persistent
  pub few_transient : AreBounded records transient
