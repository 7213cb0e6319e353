-- How a property is found in the superclass order of an object (the chapter on tads-objects).
use Rattle.std.specs.Prelude.{ℕ, List, [], ◌∷◌, Option, Some, None, option_map}
use Rattle.t3_holder.specs.declared.holder.Holder.{Holder}
use Rattle.t3_undo.specs.declared.cell.Cell.TheVariants.{Prop}
use Rattle.t3_tadsobj.specs.Order.{preorder, last_places}
use Rattle.t3_store.specs.Value.{holder_at}
use Rattle.t3_store.specs.Store.{StoreValue, value_at, objects_in}
use Rattle.t3_store.specs.Whole.{supers_of_live}
use Rattle.t3_kinds.specs.declared.search.Found.{Found}

-- the order of a tads-object and its superclasses, and none of what isn't one. No walk over superclasses is longer than there are objects
unfoldable pub order_of : StoreValue → ℕ → List ℕ
order_of store number = last_places (preorder (supers_of_live store) (objects_in store) number)

abbrev pub here_or_behind : ℕ → Option Holder → Option (ℕ × Holder) → Option (ℕ × Holder)
here_or_behind number (Some value) rest = Some (number, value)
here_or_behind number None rest = rest

-- the first of these objects that has the property, with its value
abbrev pub searched : StoreValue → ℕ → List ℕ → Option (ℕ × Holder)
searched store property [] = None
searched store property (number ∷ numbers) =
    here_or_behind number (holder_at (value_at store number) (Prop property)) (searched store property numbers)

-- where a property of an object is found: the object that defines it, and the value
abbrev pub property_of : StoreValue → ℕ → ℕ → Option (ℕ × Holder)
property_of store number property = searched store property (order_of store number)

abbrev pub found_value : Option Found → Option (ℕ × Holder)
found_value found = option_map (λ f. (f.defining, f.value)) found
