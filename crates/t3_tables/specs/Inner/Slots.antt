-- A table's slots, and how its entries are gathered from them.
use Rattle.std.specs.Prelude.{ℕ, List, Option, None, Some, IsTrue}
use Rattle.std.specs.FinMap.{put, contains_key}
use Rattle.t3_holder.specs.declared.holder.Holder.{Holder}
use Rattle.t3_undo.specs.Present.{Present}
use Rattle.t3_undo.specs.Slots as slots
use Rattle.t3_undo.specs.declared.key.Key.{Key}
use Rattle.t3_undo.specs.declared.cell.Cell.{Cell}
use Rattle.t3_undo.specs.declared.cell.Cell.TheVariants as cells
use Rattle.t3_undo.specs.declared.place.Place.{Place}
use Rattle.t3_tables.specs.Table.{AreBelow, place_cmp, entry_in}

-- the cell is that of an entry
abbrev pub IsEntry : Cell → Type 0
IsEntry (cells.Key _) = Unit {0}
IsEntry cells.Default = ⊥
IsEntry (cells.Prop _) = ⊥
IsEntry (cells.Elem _) = ⊥

-- only entries have slots, and the next tick is above theirs
pub record IsTable (es : List (Cell × Place)) (next_tick : ℕ) : Type 0 where
  pub only : (cell : Cell) → IsTrue (contains_key (slots.places_of es) cell) → IsEntry cell
  pub below : AreBelow next_tick (slots.parts_of es)

abbrev pub among : Option ((ℕ × Key) × Holder) → List ((ℕ × Key) × Holder) → List ((ℕ × Key) × Holder)
among None es = es
among (Some e) es = put place_cmp e.0 e.1 es

-- the ordered entries with what stands in a cell, if it is an entry that is present
abbrev pub with_entry : Cell → Option Present → List ((ℕ × Key) × Holder) → List ((ℕ × Key) × Holder)
with_entry cell None es = es
with_entry cell (Some present) es = among (entry_in cell present) es
