-- Objects as they stand in a row, by rising number.
use Rattle.std.specs.Prelude.{◌≡◌, ◌+◌, ◌<◌, ◌≤◌, ◌==◌, Bool, false, ℕ, suc, List, [], ◌∷◌, Option, None, Some, if◌then◌else◌, option_map, MatchOption, IsSome}
use Rattle.std.specs.List.{AllByRecursion}
use Rattle.std.specs.Ordering.{nat_cmp, eq_by_cmp}
use Rattle.std.specs.FinMap.{FinMap, empty, get}
use Rattle.t3_undo.specs.Content.{Places}
use Rattle.t3_undo.specs.Objects.{Objects, set_at}
use Rattle.t3_store.specs.Inner.Shapes.{Shape, thing_of, places_of, tick_of, value_of, values, Stored, HasFreshPlaces}
use Rattle.t3_store.specs.Value.{Value, units_of, units_in}
use Rattle.t3_store.specs.Inner.Valid.{IsValid, AreValid}
use Rattle.t3_store.specs.declared.object.Object.{Object}
use Rattle.t3_store.specs.declared.entries.Entry.{Entry}

-- each number is below those behind it
abbrev pub IsRising : List Entry → Type 0
IsRising [] = Unit {0}
IsRising (entry ∷ entries) = AllByRecursion (λ later. entry.number < later.number) entries × IsRising entries

-- where the first object of a number stands
abbrev pub index_of : ℕ → List Entry → Option ℕ
index_of number [] = None
index_of number (entry ∷ entries) =
    if eq_by_cmp nat_cmp number entry.number then Some 0 else option_map suc (index_of number entries)

-- the first object of a number
abbrev pub object_at : ℕ → List Entry → Option Object
object_at number [] = None
object_at number (entry ∷ entries) =
    if eq_by_cmp nat_cmp number entry.number then Some entry.object else object_at number entries

-- what is read of each object, by its number
unfoldable pub by_number : {X : Type 0} → (Object → X) → List Entry → FinMap nat_cmp X
by_number read [] = empty
by_number read (entry ∷ entries) = set_at (by_number read entries) entry.number (Some (read entry.object))

-- the objects of a row
abbrev pub things_of : List Entry → Objects Shape
things_of entries = by_number thing_of entries

-- and the places of each
abbrev pub places_in : List Entry → FinMap nat_cmp Places
places_in entries = by_number places_of entries

-- and the next tick of each
abbrev pub ticks_in : List Entry → FinMap nat_cmp ℕ
ticks_in entries = by_number tick_of entries

-- all that is kept of the objects of a row
abbrev pub stored_of : List Entry → Stored
stored_of entries = record { objects = things_of entries; places = places_in entries; ticks = ticks_in entries }

-- whether there is an entry, of that number
abbrev pub is_numbered : ℕ → Option Entry → Bool
is_numbered number None = false
is_numbered number (Some entry) = entry.number == number

-- numbers rise, the units are counted, and each object is as one of its kind can be
pub record IsObjectMap (entries : List Entry) (units : ℕ) : Type 0 where
  pub rising : IsRising entries
  pub counted : units ≡ units_in (values (things_of entries))
  pub valid : AreValid (things_of entries)

-- an entry's number, with its object's value
abbrev pub keyed : Entry → ℕ × Value
keyed entry = (entry.number, value_of (thing_of entry.object))

-- each object is as one of its kind can be
abbrev pub AreAllValid : List Entry → Type 0
AreAllValid entries = AllByRecursion (λ entry. IsValid (thing_of entry.object)) entries

-- a table's next tick is at most one more than its units
abbrev pub HasTickForUnits : Entry → Type 0
HasTickForUnits entry = tick_of entry.object ≤ units_of (value_of (thing_of entry.object)) + 1

abbrev pub HaveTicksForUnits : List Entry → Type 0
HaveTicksForUnits entries = AllByRecursion HasTickForUnits entries

-- each object has a place for each present cell, and no other
abbrev pub HaveAllFreshPlaces : List Entry → Type 0
HaveAllFreshPlaces entries = AllByRecursion (λ entry. HasFreshPlaces entry.object) entries

-- this is the least number of an object from that one on
abbrev pub IsFirstFrom : Objects Shape → ℕ → Option ℕ → Type 0
IsFirstFrom things least result =
    MatchOption result ((q : ℕ) → least ≤ q → get things q ≡ None)
    (λ first. (least ≤ first) × IsSome (get things first) × ((q : ℕ) → least ≤ q → q < first → get things q ≡ None))
