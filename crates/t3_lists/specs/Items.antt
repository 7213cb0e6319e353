-- The items of a vector: what stands in a cell, and what a change of one does.
use Rattle.std.specs.Prelude.{◌≡◌, ◌≤◌, ℕ, zero, suc, ◌-◌, ◌==◌, Bool, false, ◌&&◌, ◌||◌, if◌then◌else◌, List, [], ◌∷◌, ◌++◌, Option, None, take, length, slice_get, slice_set, nat_lt}
use Rattle.t3_holder.specs.declared.holder.Holder.{Holder}
use Rattle.t3_undo.specs.Content.{Parts}
use Rattle.t3_undo.specs.declared.cell.Cell.{Cell}
use Rattle.t3_undo.specs.declared.cell.Cell.TheVariants as cells
use Rattle.t3_lists.specs.Vector.{filled}

-- the parts of a vector: no element is missing below another, and there are not too many
pub record IsWholeVector (parts : Parts) : Type 0 where
  pub items : List Holder
  pub are : parts ≡ filled items
  pub few : length items ≤ 65535

-- the element of a number, from 1 on
abbrev pub element_of : ℕ → List Holder → Option Holder
element_of zero items = None
element_of (suc index) items = slice_get items index

-- the element in a cell
abbrev pub element_at : Cell → List Holder → Option Holder
element_at (cells.Elem number) items = element_of number items
element_at (cells.Prop _) items = None
element_at (cells.Key _) items = None
element_at cells.Default items = None

-- the items with the one at an index set, or with one more behind the last
abbrev pub set_item : ℕ → Holder → List Holder → List Holder
set_item index holder items = if nat_lt index (length items) then slice_set items index holder else items ++ holder ∷ []

abbrev pub set_element : ℕ → Holder → List Holder → List Holder
set_element zero holder items = items
set_element (suc index) holder items = set_item index holder items

abbrev pub with_element : Cell → Holder → List Holder → List Holder
with_element (cells.Elem number) holder items = set_element number holder items
with_element (cells.Prop _) holder items = items
with_element (cells.Key _) holder items = items
with_element cells.Default holder items = items

-- the items without the last one
abbrev pub but_last : List Holder → List Holder
but_last items = take (length items - 1) items

-- an element that is taken away is the last one
abbrev pub without_element : Cell → List Holder → List Holder
without_element (cells.Elem _) items = but_last items
without_element (cells.Prop _) items = items
without_element (cells.Key _) items = items
without_element cells.Default items = items

-- an element that is there, or the next one, which is at most number 65,535
abbrev pub is_element_within : ℕ → ℕ → Bool
is_element_within zero count = false
is_element_within (suc index) count = nat_lt index count || (index == count && nat_lt index 65535)

abbrev pub is_element_for : Cell → ℕ → Bool
is_element_for (cells.Elem number) count = is_element_within number count
is_element_for (cells.Prop _) count = false
is_element_for (cells.Key _) count = false
is_element_for cells.Default count = false

-- the last element
abbrev pub is_last : Cell → ℕ → Bool
is_last (cells.Elem number) count = nat_lt 0 number && (number == count)
is_last (cells.Prop _) count = false
is_last (cells.Key _) count = false
is_last cells.Default count = false
