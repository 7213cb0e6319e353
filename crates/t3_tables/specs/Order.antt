-- What setting an entry, and taking one away, does to the order of a table's entries.
use Rattle.std.specs.Prelude.{◌≡◌, ℕ, [], ◌∷◌, ◌++◌, map, filter, not, if◌then◌else◌, Option, None}
use Rattle.std.specs.Ordering.{eq_by_cmp}
use Rattle.std.specs.FinMap.{get}
use Rattle.t3_holder.specs.declared.holder.Holder.{Holder}
use Rattle.t3_undo.specs.Content.{Parts, shown}
use Rattle.t3_undo.specs.Present.{Present}
use Rattle.t3_undo.specs.Key.{key_cmp}
use Rattle.t3_undo.specs.Objects.{set_at}
use Rattle.t3_undo.specs.declared.key.Key.{Key}
use Rattle.t3_undo.specs.declared.cell.Cell.{Cell}
use Rattle.t3_undo.specs.declared.cell.Cell.TheVariants as cells
use Rattle.t3_undo.specs.declared.content.Content.TheVariants as contents
use Rattle.t3_tables.specs.declared.pair.Pair.{Pair}
use Rattle.t3_tables.specs.Table.{entries_of, AreBelow}

-- the entry with another value, if it has this key
abbrev pub with_value : Key → Holder → Pair → Pair
with_value key value pair = if eq_by_cmp key_cmp key pair.key then record { key = pair.key; value = value } else pair

-- a key that is absent, and is set with a tick above all others, comes last
abbrev pub NewComesLast : Type 0
NewComesLast =
    (parts : Parts) (key : Key) (tick : ℕ) (value : Holder) → get parts (cells.Key key) ≡ None → AreBelow tick parts
    → entries_of (set_at parts (cells.Key key) (shown (contents.Slot tick value)))
    ≡ entries_of parts ++ record { key = key; value = value } ∷ []

-- a key that is present, and is set with the tick that it has, keeps its place
abbrev pub PresentKeepsPlace : Type 0
PresentKeepsPlace =
    (parts : Parts) (key : Key) (tick : ℕ) (old value : Holder) → get parts (cells.Key key) ≡ shown (contents.Slot tick old)
    → entries_of (set_at parts (cells.Key key) (shown (contents.Slot tick value))) ≡ map (with_value key value) (entries_of parts)

-- a key that is taken away leaves the others in their order
abbrev pub OthersStay : Type 0
OthersStay =
    (parts : Parts) (key : Key)
    → entries_of (set_at parts (cells.Key key) None) ≡ filter (λ pair. not (eq_by_cmp key_cmp key pair.key)) (entries_of parts)

-- whatever is put in a cell, the content that stood there puts every entry back where it stood
abbrev pub OldStandsWhereItStood : Type 0
OldStandsWhereItStood =
    (parts : Parts) (cell : Cell) (content : Option Present)
    → entries_of (set_at (set_at parts cell content) cell (get parts cell)) ≡ entries_of parts

-- the default has no place among the entries
abbrev pub DefaultIsApart : Type 0
DefaultIsApart =
    (parts : Parts) (value : Holder) → entries_of (set_at parts cells.Default (shown (contents.Held value))) ≡ entries_of parts
