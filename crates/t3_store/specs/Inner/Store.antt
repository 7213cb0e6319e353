-- How a store's objects and journal are the value that contracts see, and what stays true of them.
use Rattle.std.specs.Prelude.{◌≡◌, ◌<◌, ◌≤◌, ◌^◌, ◌⊎◌, ℕ, ◌+◌, Some, List, [], ◌∷◌, ◌++◌, Option, None, map, length, reverse, is_some, true, IsTrue}
use Rattle.std.specs.List.{AllByRecursion}
use Rattle.std.specs.Ordering.{nat_cmp}
use Rattle.std.specs.FinMap.{FinMap, get, len}
use Rattle.t3_undo.specs.Content.{Places, is_form}
use Rattle.t3_undo.specs.Present.{Present}
use Rattle.t3_undo.specs.Objects.{Objects, OldPart, Segment, set_cell, adjust, part_at, before}
use Rattle.t3_undo.specs.Journal.{Held, note_in}
use Rattle.t3_undo.specs.Stamps.{AreStamped, HasRecord, stamp_after}
use Rattle.t3_undo.specs.declared.cell.Cell.{Cell}
use Rattle.t3_store.specs.Value.{Value, units_in}
use Rattle.t3_store.specs.Store.{Mark, StoreValue, AreLimits}
use Rattle.t3_store.specs.Inner.Shapes.{Shape, Stored, values, has_place, stamp_at, with_place_stamp, HaveZeroStamps, tick_behind, AreWithin}
use Rattle.t3_tables.specs.Entries.{risen}
use Rattle.t3_store.specs.Inner.Valid.{AreValidBefore}
use Rattle.t3_store.specs.Inner.Bounded.{HaveFreshPlaces, HaveFewPlaces, IsPlaceMade, IsFilledBelow}
use Rattle.t3_store.specs.Inner.Whole.{supers_from, supers_of_both, AreWhole}
use Rattle.t3_store.specs.declared.limits.StoreLimits.{StoreLimits}

-- which cell of which object a record is of
abbrev pub change_of : OldPart → ℕ × Cell
change_of part = (part.number, part.cell)

-- the held savepoints as whole copies, each from the next newer one: old contents are put back, segment after segment
unfoldable pub marks_of : Objects Shape → List Segment → List Mark
marks_of things [] = []
marks_of things (segment ∷ segments) =
    record { copy = values (before things segment); next = segment.next; changed = map change_of segment.records }
    ∷ marks_of (before things segment) segments

-- the store that the halves, the next numbers, the limits and the journal's segments are
abbrev pub store_of : Objects Shape → Objects Shape → ℕ → ℕ → StoreLimits → List Segment → StoreValue
store_of persistent transient next next_transient limits segments = record {
  persistent = values persistent;
  transient = values transient;
  next = next;
  next_transient = next_transient;
  limits = limits;
  marks = marks_of persistent segments;
}

-- a record can be put back: its object has a place for the cell, and the content is of the cell's form
pub record CanBePut (places : FinMap nat_cmp Places) (part : OldPart) : Type 0 where
  pub placed : IsTrue (has_place places part.number part.cell)
  pub formed : IsTrue (is_form part.cell part.old)

-- all of these can
abbrev pub CanAllBePut : FinMap nat_cmp Places → List OldPart → Type 0
CanAllBePut places parts = AllByRecursion (CanBePut places) parts

-- so can those of all segments
abbrev pub CanEachBePut : FinMap nat_cmp Places → List Segment → Type 0
CanEachBePut places segments = AllByRecursion (λ segment. CanAllBePut places segment.records) segments

-- the newest segment without its records
abbrev pub emptied : List Segment → List Segment
emptied [] = []
emptied (segment ∷ segments) = record segment { records = [] } ∷ segments

-- the segments can be put back one after another: next numbers don't rise towards the older ones, and each record is of
-- an object older than its savepoint
abbrev pub IsSound : FinMap nat_cmp Places → ℕ → List Segment → Type 0
IsSound places top [] = Unit {0}
IsSound places top (segment ∷ segments) =
    (segment.next ≤ top) × AllByRecursion (λ part. part.number < segment.next) segment.records
    × CanAllBePut places segment.records × IsSound places segment.next segments

-- no place is lost
abbrev pub AreKept : FinMap nat_cmp Places → FinMap nat_cmp Places → Type 0
AreKept old new = (number : ℕ) (cell : Cell) → IsTrue (has_place old number cell) → IsTrue (has_place new number cell)

-- each place has the stamp that it had, and a new one has stamp 0
abbrev pub KeepStamps : FinMap nat_cmp Places → FinMap nat_cmp Places → Type 0
KeepStamps old new = (number : ℕ) (cell : Cell) (stamp : ℕ) → stamp_at new number cell ≡ Some stamp
    → (stamp_at old number cell ≡ Some stamp) ⊎ ((stamp_at old number cell ≡ None) × (stamp ≡ 0))

-- an object has a place for a cell, no place was lost for it, and each has its stamp
pub record IsReady (old new : Stored) (number : ℕ) (cell : Cell) : Type 0 where
  pub same : new.objects ≡ old.objects
  pub ticks : new.ticks ≡ old.ticks
  pub kept : AreKept old.places new.places
  pub stamps : KeepStamps old.places new.places
  pub placed : IsTrue (has_place new.places number cell)
  pub made : IsPlaceMade old new number cell

-- where no tick was above the bound, this content's isn't, and none is above the bound that it gives now
abbrev pub HaveRisen : FinMap nat_cmp ℕ → FinMap nat_cmp ℕ → Option Present → Type 0
HaveRisen old new was = (bound : ℕ) → AreWithin bound old → (tick_behind was ≤ bound) × AreWithin (risen bound was) new

-- a cell of an object was set or taken away, where this stood
pub record IsWritten (old new : Stored) (number : ℕ) (cell : Cell) (change : Value → Value) (was : Option Present) : Type 0 where
  pub content : Option Present
  pub objects : new.objects ≡ set_cell old.objects number cell content
  pub values : values new.objects ≡ adjust (values old.objects) number change
  pub kept : AreKept old.places new.places
  pub placed : IsTrue (has_place new.places number cell)
  pub stood : was ≡ part_at old.objects number cell
  pub formed : IsTrue (is_form cell was)
  pub ticks : HaveRisen old.ticks new.ticks was
  pub filled : IsFilledBelow old.objects number cell

-- the record of what stood in a cell, and of the stamp that its place had
abbrev pub record_of : ℕ → Cell → Option Present → ℕ → OldPart
record_of number cell was stamp = record { number = number; cell = cell; old = was; stamp = stamp }

-- the same cells have a place
abbrev pub HaveSamePlaces : FinMap nat_cmp Places → FinMap nat_cmp Places → Type 0
HaveSamePlaces old new = (number : ℕ) (cell : Cell) → has_place new number cell ≡ has_place old number cell

-- what stood in a cell before it was changed is recorded where that is due, with the stamp that the cell's place had; the place
-- has the stamp that says so, and the stamps of all places are right
pub record NotesChange (old new : Stored) (journal after : Held) (number : ℕ) (cell : Cell) (was : Option Present) : Type 0 where
  pub stamp : ℕ
  pub had : stamp_at old.places number cell ≡ Some stamp
  pub objects : new.objects ≡ old.objects
  pub ticks : new.ticks ≡ old.ticks
  pub places : new.places ≡ with_place_stamp number cell (stamp_after number stamp journal.segments) old.places
  pub recorded : after ≡ record journal { segments = note_in journal.record_limit (record_of number cell was stamp) journal.segments }
  pub stamped : AreStamped after.marks (stamp_at new.places) after.segments

-- objects have numbers from 1 on that were given: persistent ones below the next number, transient ones below it too, or from
-- 2^31 on and below the next transient number; and none is given twice
pub record AreNumbered (persistent transient : Objects Shape) (next next_transient : ℕ) : Type 0 where
  pub persistent_from_one : get persistent 0 ≡ None
  pub transient_from_one : get transient 0 ≡ None
  pub next_from_one : 1 ≤ next
  pub persistent_below : (q : ℕ) → next ≤ q → get persistent q ≡ None
  pub transient_low : (q : ℕ) → next ≤ q → q < 2 ^ 31 → get transient q ≡ None
  pub transient_high : (q : ℕ) → next_transient ≤ q → get transient q ≡ None
  pub next_fits : next ≤ 2 ^ 31
  pub transient_from : 2 ^ 31 ≤ next_transient
  pub transient_fits : next_transient ≤ 2 ^ 32
  pub distinct : (q : ℕ) → is_some (get persistent q) ≡ true → get transient q ≡ None

-- the first list is a front of the second
pub record IsFront (front whole : List ℕ) : Type 0 where
  pub rest : List ℕ
  pub is : whole ≡ front ++ rest

-- how many units each savepoint's copy counts
abbrev pub saved_units : List Mark → List ℕ
saved_units marks = map (λ mark. units_in mark.copy) marks

-- the sums are within the limits, each half's by itself and each savepoint's too; and the units of the savepoints are
-- kept, the newest last
pub record AreCounted (persistent transient : Objects Shape) (limits : StoreLimits) (marks : List Mark) (units : List ℕ) (room : ℕ) : Type 0 where
  pub objects : len (values persistent) + len (values transient) ≤ limits.objects
  pub persistent_units : units_in (values persistent) ≤ limits.units
  pub transient_units : units_in (values transient) ≤ limits.units
  pub copies : IsFront (saved_units marks) (reverse units)
  pub each : AllByRecursion (λ count. count ≤ limits.units) (reverse units)
  pub few : length units ≤ limits.savepoints
  pub fits : limits.savepoints ≤ room

-- the records' contents have no ticks above the bound
abbrev pub AreRecordsWithin : ℕ → List Segment → Type 0
AreRecordsWithin bound segments = AllByRecursion (λ segment. AllByRecursion (λ part. tick_behind part.old ≤ bound) segment.records) segments

-- what the kinds rest on: each object was as one of its kind can be at each savepoint, and no tick is above that of a table
-- that was given one at each write
pub record AreKindsKept (persistent transient : Stored) (segments : List Segment) (writes : ℕ) : Type 0 where
  pub valid : AreValidBefore persistent.objects segments
  pub persistent_ticks : AreWithin (writes + 1) persistent.ticks
  pub transient_ticks : AreWithin (writes + 1) transient.ticks
  pub records : AreRecordsWithin (writes + 1) segments

-- what stays true of a store
pub record IsStore (persistent transient : Stored) (next next_transient : ℕ) (limits : StoreLimits) (journal : Held) (units : List ℕ)
    (room writes : ℕ) : Type 0 where
  pub bounded : AreLimits limits
  pub records : journal.record_limit ≡ limits.records
  pub savepoints : journal.mark_limit ≡ limits.savepoints
  pub numbered : AreNumbered persistent.objects transient.objects next next_transient
  pub sound : IsSound persistent.places next journal.segments
  pub stamped : AreStamped journal.marks (stamp_at persistent.places) journal.segments
  pub transient_stamps : HaveZeroStamps transient.places
  pub counted : AreCounted persistent.objects transient.objects limits (marks_of persistent.objects journal.segments) units room
  pub few_writes : writes ≤ 2 ^ 63
  pub whole : AreWhole (supers_from persistent.objects) (supers_of_both persistent.objects transient.objects) next next_transient
      journal.segments
  pub kinds : AreKindsKept persistent transient journal.segments writes

-- and no object has too many places
pub record IsTidyStore (persistent transient : Stored) (next next_transient : ℕ) (limits : StoreLimits) (journal : Held) (units : List ℕ)
    (room writes : ℕ) : Type 0 where
  pub is : IsStore persistent transient next next_transient limits journal units room writes
  pub places : HaveFewPlaces persistent transient limits.records journal.segments

-- an object's cells with a record keep their place, and each place its stamp
pub record IsPurged (old new : Stored) (segments : List Segment) : Type 0 where
  pub objects : new.objects ≡ old.objects
  pub ticks : new.ticks ≡ old.ticks
  pub fewer : (number : ℕ) (cell : Cell) (stamp : ℕ) → stamp_at new.places number cell ≡ Some stamp → stamp_at old.places number cell ≡ Some stamp
  pub kept : (number : ℕ) (cell : Cell) → HasRecord number cell segments → IsTrue (has_place old.places number cell)
      → IsTrue (has_place new.places number cell)

-- numbers are from 1 on and below 2^31, the sums are no greater than they may be, no tick is above that of a table that was
-- given one for each unit, and each place is that of a present cell
pub record IsPersistent (stored : Stored) : Type 0 where
  pub from_one : get (values stored.objects) 0 ≡ None
  pub numbered : (q : ℕ) → 2 ^ 31 ≤ q → get (values stored.objects) q ≡ None
  pub few : len (values stored.objects) ≤ 1048576
  pub few_units : units_in (values stored.objects) ≤ 4194304
  pub ticks : AreWithin (units_in (values stored.objects) + 1) stored.ticks
  pub fresh_places : HaveFreshPlaces stored
