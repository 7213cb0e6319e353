-- Stamps of places, which tell without a search what a journal's savepoints have records of.
use Rattle.std.specs.Prelude.{◌≡◌, ◌<◌, ◌≤◌, ◌↔◌, ◌==◌, ◌&&◌, ℕ, ◌+◌, if◌then◌else◌, List, [], ◌∷◌, Option, None, Some, IsTrue, IsSome, nat_lt, false, option_map}
use Rattle.std.specs.List.{AllByRecursion}
use Rattle.std.specs.Ordering.{nat_cmp, eq_by_cmp}
use Rattle.t3_undo.specs.Cell.{cell_cmp}
use Rattle.t3_undo.specs.Objects.{OldPart, Segment, is_of, is_noted}
use Rattle.t3_undo.specs.Journal.{newest_serial, oldest_serial_or, newest_records}
use Rattle.t3_undo.specs.declared.cell.Cell.{Cell}

-- the stamp of the place that a cell of an object has, none where it has no place
abbrev pub Stamps : Type 0
Stamps = ℕ → Cell → Option ℕ

-- the stamps once a cell's place has been given another
abbrev pub with_stamp : ℕ → Cell → ℕ → Stamps → Stamps
with_stamp number cell stamp stamps =
    λ other_number other.
    if eq_by_cmp nat_cmp other_number number && eq_by_cmp cell_cmp other cell then Some stamp else stamps other_number other

-- the stamp of a cell's place once the records' stamps are put back, in the list's order
abbrev pub stamp_before : ℕ → Cell → ℕ → List OldPart → ℕ
stamp_before number cell stamp [] = stamp
stamp_before number cell stamp (part ∷ parts) = stamp_before number cell (if is_of number cell part then part.stamp else stamp) parts

-- the stamps of all places then
abbrev pub stamps_before : Stamps → List OldPart → Stamps
stamps_before stamps parts = λ number cell. option_map (λ stamp. stamp_before number cell stamp parts) (stamps number cell)

-- the stamp that a place has after a change of its cell: the newest serial where the object is older than that savepoint
abbrev pub stamp_after : ℕ → ℕ → List Segment → ℕ
stamp_after number stamp [] = stamp
stamp_after number stamp (segment ∷ segments) = if nat_lt number segment.next then segment.serial else stamp

-- serials fall towards the older savepoints; the newest is below the bound, and the oldest above 0
abbrev pub HaveSerialsBelow : ℕ → List Segment → Type 0
HaveSerialsBelow bound [] = 0 < bound
HaveSerialsBelow bound (segment ∷ segments) = (segment.serial < bound) × HaveSerialsBelow segment.serial segments

-- a place's stamp is the serial of the newest savepoint exactly where that one has a record of the cell, and else less;
-- and once that savepoint's records are put back, it is so with the older ones
abbrev pub IsStamp : ℕ → ℕ → Cell → ℕ → List Segment → Type 0
IsStamp bound number cell stamp [] = stamp < bound
IsStamp bound number cell stamp (segment ∷ segments) =
    (stamp ≤ segment.serial) × (is_noted number cell segment.records ≡ (stamp == segment.serial))
    × IsStamp segment.serial number cell (stamp_before number cell stamp segment.records) segments

-- so it is with every place, after so many savepoints were made
pub record AreStamped (made : ℕ) (stamps : Stamps) (segments : List Segment) : Type 0 where
  pub serials : HaveSerialsBelow (made + 1) segments
  pub each : (number : ℕ) (cell : Cell) (stamp : ℕ) → stamps number cell ≡ Some stamp
      → IsStamp (made + 1) number cell stamp segments

-- no savepoint has a record of the cell
abbrev pub IsUnnoted : ℕ → Cell → List Segment → Type 0
IsUnnoted number cell segments = AllByRecursion (λ segment. is_noted number cell segment.records ≡ false) segments

-- the serial of the newest savepoint with a record of the cell
abbrev pub noted_serial : ℕ → Cell → List Segment → Option ℕ
noted_serial number cell [] = None
noted_serial number cell (segment ∷ segments) =
    if is_noted number cell segment.records then Some segment.serial else noted_serial number cell segments

-- a savepoint has a record of the cell
abbrev pub HasRecord : ℕ → Cell → List Segment → Type 0
HasRecord number cell segments = IsSome (noted_serial number cell segments)

-- what a place's stamp tells, after so many savepoints were made: it is the newest serial exactly where the newest
-- savepoint has a record of the cell; it is the serial of the newest savepoint that has one; where none has, it is
-- below the serials of all; and no serial to come is as low
pub record TellsRecords (made number : ℕ) (cell : Cell) (stamp : ℕ) (segments : List Segment) : Type 0 where
  pub newest : (newest_serial segments ≡ Some stamp) ↔ IsTrue (is_noted number cell (newest_records segments))
  pub noted : (serial : ℕ) → noted_serial number cell segments ≡ Some serial → stamp ≡ serial
  pub unnoted : noted_serial number cell segments ≡ None → stamp < oldest_serial_or (made + 1) segments
  pub within : stamp ≤ made

-- whatever the savepoints and the stamps, as long as these are right
abbrev pub IsStampLaw : Type 0
IsStampLaw =
    (made : ℕ) (stamps : Stamps) (segments : List Segment) → AreStamped made stamps segments
    → (number : ℕ) (cell : Cell) (stamp : ℕ) → stamps number cell ≡ Some stamp → TellsRecords made number cell stamp segments
