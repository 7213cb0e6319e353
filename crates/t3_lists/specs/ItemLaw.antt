-- What setting an element, and taking the last one away, does to the items of a vector.
use Rattle.std.specs.Prelude.{◌≡◌, ℕ, ◌+◌, ◌<◌, List, [], ◌∷◌, ◌++◌, None, length, slice_set}
use Rattle.t3_holder.specs.declared.holder.Holder.{Holder}
use Rattle.t3_undo.specs.Content.{shown}
use Rattle.t3_undo.specs.Objects.{set_at}
use Rattle.t3_undo.specs.declared.cell.Cell.TheVariants as cells
use Rattle.t3_undo.specs.declared.content.Content.TheVariants as contents
use Rattle.t3_lists.specs.Vector.{items_of, filled}

-- a vector of some items has just these
abbrev pub HasItsItems : Type 0
HasItsItems = (items : List Holder) → items_of (filled items) ≡ items

-- an element that is present, set anew
abbrev pub SetsItem : Type 0
SetsItem =
    (items : List Holder) (index : ℕ) (item : Holder) → index < length items
    → filled (slice_set items index item) ≡ set_at (filled items) (cells.Elem (1 + index)) (shown (contents.Held item))

-- the element behind the last one, set
abbrev pub AddsItem : Type 0
AddsItem =
    (items : List Holder) (item : Holder)
    → filled (items ++ item ∷ []) ≡ set_at (filled items) (cells.Elem (1 + length items)) (shown (contents.Held item))

-- the last element, taken away
abbrev pub TakesItemAway : Type 0
TakesItemAway =
    (items : List Holder) (item : Holder)
    → set_at (filled (items ++ item ∷ [])) (cells.Elem (1 + length items)) None ≡ filled items
