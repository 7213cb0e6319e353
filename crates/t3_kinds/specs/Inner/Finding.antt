-- Where a search for a property goes on at an object.
use Rattle.std.specs.Prelude.{ℕ, List, [], ◌∷◌, Option, Some, None}
use Rattle.t3_holder.specs.declared.holder.Holder.{Holder}
use Rattle.t3_undo.specs.declared.cell.Cell.TheVariants.{Prop}
use Rattle.t3_store.specs.Value.{holder_at}
use Rattle.t3_store.specs.Store.{StoreValue, value_at}
use Rattle.t3_store.specs.Whole.{supers_of_live}
use Rattle.t3_kinds.specs.declared.search.Place.{Place}
use Rattle.t3_kinds.specs.declared.search.Place.TheVariants.{Here, Above, AboveMany, Nowhere}

abbrev pub place_above : Option (List ℕ) → Place
place_above None = Nowhere
place_above (Some []) = Nowhere
place_above (Some (number ∷ [])) = Above number
place_above (Some (number ∷ other ∷ rest)) = AboveMany

abbrev pub place_by : Option Holder → Option (List ℕ) → Place
place_by (Some value) supers = Here value
place_by None supers = place_above supers

-- where the search for a property goes on at an object
abbrev pub place_at : StoreValue → ℕ → ℕ → Place
place_at store number property = place_by (holder_at (value_at store number) (Prop property)) (supers_of_live store number)
