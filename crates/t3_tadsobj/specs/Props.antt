-- The properties of a tads-object: what stands in a cell, and what a change of one does.
use Rattle.std.specs.Prelude.{◌≡◌, ℕ, ◌&&◌, Option, None, Some, IsTrue}
use Rattle.std.specs.Ordering.{nat_cmp}
use Rattle.std.specs.FinMap.{FinMap, get, insert, remove}
use Rattle.t3_holder.specs.declared.holder.Holder.{Holder}
use Rattle.t3_undo.specs.Content.{Parts, is_form}
use Rattle.t3_undo.specs.Present.{Present}
use Rattle.t3_undo.specs.declared.cell.Cell.{Cell}
use Rattle.t3_undo.specs.declared.cell.Cell.TheVariants as cells
use Rattle.t3_tadsobj.specs.Object.{is_prop}
use Rattle.t3_tadsobj.specs.declared.props.PropValue.{PropValue}

-- properties, from their numbers to their values
abbrev pub PropMap : Type 0
PropMap = FinMap nat_cmp Holder

-- a property's number and value
abbrev pub pair_of : PropValue → ℕ × Holder
pair_of prop = (prop.number, prop.value)

-- only properties are present, each with a value
abbrev pub AreProps : Parts → Type 0
AreProps parts = (cell : Cell) (present : Present) → get parts cell ≡ Some present → IsTrue (is_prop cell && is_form cell (Some present))

-- the property in a cell
abbrev pub prop_at : Cell → PropMap → Option Holder
prop_at (cells.Prop number) props = get props number
prop_at (cells.Elem _) props = None
prop_at (cells.Key _) props = None
prop_at cells.Default props = None

-- the properties with the one in a cell set
abbrev pub with_prop : Cell → Holder → PropMap → PropMap
with_prop (cells.Prop number) holder props = insert props number holder
with_prop (cells.Elem _) holder props = props
with_prop (cells.Key _) holder props = props
with_prop cells.Default holder props = props

-- and without it
abbrev pub without_prop : Cell → PropMap → PropMap
without_prop (cells.Prop number) props = remove props number
without_prop (cells.Elem _) props = props
without_prop (cells.Key _) props = props
without_prop cells.Default props = props
