-- Vectors: elements that have a place, each with its value or missing; as cells, and as a list of items.
use Rattle.std.specs.Prelude.{◌≡◌, ℕ, suc, ◌<◌, Bool, true, false, List, [], ◌∷◌, map, Option, None, Some, IsTrue}
use Rattle.std.specs.List.{filter_map}
use Rattle.std.specs.FinMap.{entries, empty, insert, contains_key}
use Rattle.t3_holder.specs.declared.holder.Holder.{Holder}
use Rattle.t3_undo.specs.Content.{Parts, Places}
use Rattle.t3_undo.specs.Present.{Present, value_in}
use Rattle.t3_undo.specs.Slots as slots
use Rattle.t3_undo.specs.declared.cell.Cell.{Cell}
use Rattle.t3_undo.specs.declared.cell.Cell.TheVariants as cells
use Rattle.t3_undo.specs.declared.content.Content.{Content}
use Rattle.t3_undo.specs.declared.content.Content.TheVariants as contents
use Rattle.t3_undo.specs.declared.place.Place.{Place}
use Rattle.t3_undo.specs.StampedValue.{ValuePlace}

-- what stands in the cell of an element
abbrev pub content_of : Option Holder → Content
content_of None = contents.Absent
content_of (Some value) = contents.Held value

-- a place with what an element says
abbrev pub bare : Option Holder → Place
bare element = slots.unstamped (content_of element)

-- elements in their cells, the first under this number
abbrev pub numbered : ℕ → List (Option Holder) → List (Cell × Place)
numbered number [] = []
numbered number (element ∷ elements) = (cells.Elem number, bare element) ∷ numbered (suc number) elements

-- the present ones of these as cells, of which the first is number 1
unfoldable pub parts_in : List (Option Holder) → Parts
parts_in elements = slots.parts_of (numbered 1 elements)

-- the values of a vector's elements
abbrev pub values_of : List ValuePlace → List (Option Holder)
values_of elements = map (λ element. element.value) elements

-- and their stamps
abbrev pub stamps_of : List ValuePlace → List ℕ
stamps_of elements = map (λ element. element.stamp) elements

-- the present elements as cells
abbrev pub parts_of : List ValuePlace → Parts
parts_of elements = parts_in (values_of elements)

-- places of elements with these stamps, the first under this number
unfoldable pub places_from : ℕ → List ℕ → Places
places_from number [] = empty
places_from number (stamp ∷ stamps) = insert (places_from (suc number) stamps) (cells.Elem number) stamp

-- the places of all elements
abbrev pub places_of : List ValuePlace → Places
places_of elements = places_from 1 (stamps_of elements)

-- the value of an element
abbrev pub item_in : Cell → Present → Option Holder
item_in (cells.Elem number) present = value_in present
item_in (cells.Prop _) present = None
item_in (cells.Key _) present = None
item_in cells.Default present = None

-- the values of the present elements, by rising number
unfoldable pub items_of : Parts → List Holder
items_of parts = filter_map (λ e. item_in e.0 e.1) (entries parts)

-- the parts of a vector of these items
abbrev pub filled : List Holder → Parts
filled items = parts_in (map (λ item. Some item) items)

-- no element is missing below another: there are items of which these are the parts
abbrev pub IsWhole : Parts → Type 0
IsWhole parts = (items : List Holder) × (parts ≡ filled items)

-- whether the cell is an element
abbrev pub is_element : Cell → Bool
is_element (cells.Elem _) = true
is_element (cells.Prop _) = false
is_element (cells.Key _) = false
is_element cells.Default = false

-- the cell is an element, from number 1 on, and all lower elements have a place
abbrev pub HasPlaceBelow : Places → Cell → Type 0
HasPlaceBelow places (cells.Elem number) =
    (0 < number) × ((lower : ℕ) → 0 < lower → lower < number → IsTrue (contains_key places (cells.Elem lower)))
HasPlaceBelow places (cells.Prop _) = ⊥
HasPlaceBelow places (cells.Key _) = ⊥
HasPlaceBelow places cells.Default = ⊥
