-- Which places stay once an object is purged.
use Rattle.std.specs.Prelude.{◌≡◌, ℕ, ◌<◌, ◌≤◌, ◌⊎◌, List, None, Some, IsSome}
use Rattle.std.specs.FinMap.{get}
use Rattle.t3_undo.specs.Content.{Parts, Places}
use Rattle.t3_undo.specs.Objects.{Segment}
use Rattle.t3_undo.specs.Journal.{oldest_serial}
use Rattle.t3_undo.specs.declared.cell.Cell.{Cell}
use Rattle.t3_undo.specs.declared.cell.Cell.TheVariants as cells

-- the serial of the oldest savepoint or, where none is held, a number above how many there were
abbrev pub IsOldest : ℕ → ℕ → List Segment → Type 0
IsOldest made oldest segments = ((oldest_serial segments ≡ None) × (made < oldest)) ⊎ (oldest_serial segments ≡ Some oldest)

-- the cell is present, or the stamp of its place isn't below the oldest serial: then a savepoint may have a record of it
abbrev pub IsNeeded : Parts → Places → ℕ → Cell → Type 0
IsNeeded parts places oldest cell =
    IsSome (get parts cell) ⊎ ((stamp : ℕ) × (get places cell ≡ Some stamp) × (oldest ≤ stamp))

-- a place stays if its cell is needed, or is an element below one that is
abbrev pub Stays : Parts → Places → ℕ → Cell → Type 0
Stays parts places oldest cell =
    IsNeeded parts places oldest cell
    ⊎ ((number higher : ℕ) × (cell ≡ cells.Elem number) × (0 < number) × (number < higher) × IsNeeded parts places oldest (cells.Elem higher))
