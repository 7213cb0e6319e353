-- Tads-objects: what they are, and their properties.
use Rattle.std.specs.Prelude.{ℕ, Bool, true, false, IsTrue, List, Option, None, option_map, refl}
use Rattle.std.specs.List.{filter_map}
use Rattle.std.specs.Ordering.{nat_cmp}
use Rattle.std.specs.FinMap.{FinMap, entries, from_entries}
use Rattle.std.specs.FinMap as finite
use Rattle.std.specs.Coded.{Coded, code_by, coded×, coded_ℕ, coded_bool, coded_list}
use Rattle.t3_holder.specs.declared.holder.Holder.{Holder}
use Rattle.t3_undo.specs.Content.{Parts, Places, coded_parts, coded_places}
use Rattle.t3_undo.specs.Present.{Present, value_in}
use Rattle.t3_undo.specs.declared.cell.Cell.{Cell}
use Rattle.t3_undo.specs.declared.cell.Cell.TheVariants as cells

-- a tads-object: its present cells, the cells that have a place with their stamps, its superclasses, and whether it is a class
pub record Tads : Type 0 where
  pub parts : Parts
  pub places : Places
  pub supers : List ℕ
  pub class : Bool

abbrev pub coded_tads : Coded Tads
coded_tads =
    code_by (Parts × (Places × (List ℕ × Bool))) (coded× coded_parts (coded× coded_places (coded× (coded_list coded_ℕ) coded_bool)))
    (λ t. (t.parts, (t.places, (t.supers, t.class)))) (λ c. record { parts = c.0; places = c.1.0; supers = c.1.1.0; class = c.1.1.1 })
    (λ _. refl)

-- an object without properties
abbrev pub bare : List ℕ → Bool → Tads
bare supers class = record { parts = finite.empty; places = finite.empty; supers = supers; class = class }

-- whether the cell is a property
abbrev pub is_prop : Cell → Bool
is_prop (cells.Prop _) = true
is_prop (cells.Elem _) = false
is_prop (cells.Key _) = false
is_prop cells.Default = false

-- only properties have a place
abbrev pub HasOnlyProps : Places → Type 0
HasOnlyProps places = (cell : Cell) → IsTrue (finite.contains_key places cell) → IsTrue (is_prop cell)

-- a property's number and value
abbrev pub prop_in : Cell → Present → Option (ℕ × Holder)
prop_in (cells.Prop number) present = option_map (λ value. (number, value)) (value_in present)
prop_in (cells.Elem _) present = None
prop_in (cells.Key _) present = None
prop_in cells.Default present = None

-- the present properties, from their numbers to their values
unfoldable pub props_of : Parts → FinMap nat_cmp Holder
props_of parts = from_entries (filter_map (λ e. prop_in e.0 e.1) (entries parts))
