-- The elements of a vector by their indices.
use Rattle.std.specs.Prelude.{◌≡◌, Bool, ◌||◌, nat_le, ℕ, zero, suc, ◌<◌, ◌^◌, ◌==◌, ◌++◌, if◌then◌else◌, List, [], ◌∷◌, Option, None, Some, count_by, is_some, length, slice_get, slice_set, option_map, option_and_then}
use Rattle.t3_holder.specs.declared.holder.Holder.{Holder}
use Rattle.t3_undo.specs.Content.{shown}
use Rattle.t3_undo.specs.Present.{value_in}
use Rattle.t3_undo.specs.declared.cell.Cell.{Cell}
use Rattle.t3_undo.specs.declared.cell.Cell.TheVariants as cells
use Rattle.t3_undo.specs.declared.content.Content.{Content}
use Rattle.t3_undo.specs.declared.content.Content.TheVariants as contents
use Rattle.t3_lists.specs.Vector.{content_of}
use Rattle.std.specs.List.{filter_map, list_any}
use Rattle.t3_undo.specs.StampedValue.{ValuePlace}

-- the index of an element
abbrev pub index_of : Cell → Option ℕ
index_of (cells.Elem zero) = None
index_of (cells.Elem (suc index)) = Some index
index_of (cells.Prop _) = None
index_of (cells.Key _) = None
index_of cells.Default = None

abbrev pub content_found : Option (Option Holder) → Content
content_found None = contents.Absent
content_found (Some element) = content_of element

-- what stands at an index
abbrev pub content_in : List (Option Holder) → Option ℕ → Content
content_in elements None = contents.Absent
content_in elements (Some index) = content_found (slice_get elements index)

-- the element that a content says
abbrev pub element_of : Content → Option Holder
element_of content = option_and_then value_in (shown content)

-- the elements with that at an index
abbrev pub exchanged : List (Option Holder) → Option ℕ → Content → List (Option Holder)
exchanged elements None content = elements
exchanged elements (Some index) content = slice_set elements index (element_of content)

-- the present elements are counted, and each has a number
pub record AreCounted (elements : List (Option Holder)) (present : ℕ) : Type 0 where
  pub counted : present ≡ count_by is_some elements
  pub few : length elements < 2 ^ 32

-- the elements, and one more that is missing where the index is the next one
abbrev pub with_next : List (Option Holder) → Option ℕ → List (Option Holder)
with_next elements None = elements
with_next elements (Some index) = if index == length elements then elements ++ None ∷ [] else elements

-- the stamps, and one more where the index is the next one
abbrev pub with_next_stamp : List ℕ → Option ℕ → List ℕ
with_next_stamp stamps None = stamps
with_next_stamp stamps (Some index) = if index == length stamps then stamps ++ 0 ∷ [] else stamps

-- the stamp at an index
abbrev pub stamp_in : List ℕ → Option ℕ → Option ℕ
stamp_in stamps None = None
stamp_in stamps (Some index) = slice_get stamps index

-- the stamps with another at an index
abbrev pub restamped : List ℕ → Option ℕ → ℕ → List ℕ
restamped stamps None stamp = stamps
restamped stamps (Some index) stamp = slice_set stamps index stamp

-- an element that isn't missing, with stamp 0
abbrev pub afresh : ValuePlace → Option ValuePlace
afresh element = option_map (λ value. record { stamp = 0; value = Some value }) element.value

-- the present elements alone, with stamp 0
abbrev pub present_of : List ValuePlace → List ValuePlace
present_of elements = filter_map afresh elements

-- whether an element isn't missing, or its stamp isn't below this one
abbrev pub is_needed : ℕ → ValuePlace → Bool
is_needed oldest element = is_some element.value || nat_le oldest element.stamp

-- the elements up to the last one that is needed
abbrev pub purged : ℕ → List ValuePlace → List ValuePlace
purged oldest [] = []
purged oldest (element ∷ elements) =
    if list_any (is_needed oldest) (element ∷ elements) then element ∷ purged oldest elements else []
