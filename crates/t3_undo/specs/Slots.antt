-- What slots say: cells in the order in which they were given a place, each with its stamp and its content.
use Rattle.std.specs.Prelude.{◌≡◌, ℕ, ◌||◌, nat_le, Bool, List, [], ◌∷◌, is_some, IsTrue}
use Rattle.std.specs.FinMap.{empty, insert, len}
use Rattle.std.specs.List.{AllByRecursion}
use Rattle.t3_undo.specs.Content.{Parts, Places, shown, is_form}
use Rattle.t3_undo.specs.Objects.{set_at}
use Rattle.t3_undo.specs.declared.cell.Cell.{Cell}
use Rattle.t3_undo.specs.declared.content.Content.{Content}
use Rattle.t3_undo.specs.declared.place.Place.{Place}

-- the present cells of slots, with what stands there
unfoldable pub parts_of : List (Cell × Place) → Parts
parts_of [] = empty
parts_of (slot ∷ slots) = set_at (parts_of slots) slot.0 (shown slot.1.content)

-- the cells of slots, each with its stamp
unfoldable pub places_of : List (Cell × Place) → Places
places_of [] = empty
places_of (slot ∷ slots) = insert (places_of slots) slot.0 slot.1.stamp

-- a place with this content and stamp 0
abbrev pub unstamped : Content → Place
unstamped content = record { stamp = 0; content = content }

-- whether the cell is present
abbrev pub is_present : Cell × Place → Bool
is_present slot = is_some (shown slot.1.content)

-- whether the cell is present, or its place's stamp isn't below the oldest serial
abbrev pub is_needed : ℕ → Cell × Place → Bool
is_needed oldest slot = is_some (shown slot.1.content) || nat_le oldest slot.1.stamp

-- each content is of its cell's form
abbrev pub AreFormed : List (Cell × Place) → Type 0
AreFormed slots = AllByRecursion (λ slot. IsTrue (is_form slot.0 (shown slot.1.content))) slots

-- each content is of its cell's form, and the present cells are counted
pub record AreSlots (slots : List (Cell × Place)) (present : ℕ) : Type 0 where
  pub formed : AreFormed slots
  pub counted : present ≡ len (parts_of slots)
