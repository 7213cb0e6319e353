-- The methods of lists, and the search for an element, which vectors have too (the chapters on lists and vectors, in this project's
-- profile).
use Rattle.std.specs.Prelude.{ℕ, ◌+◌, true, false, List, [], ◌∷◌, ◌++◌, length, take, drop, Option, Some, None, Result, Ok, Err}
use Rattle.t3_holder.specs.declared.holder.Holder.{Holder}
use Rattle.t3_holder.specs.declared.holder.Holder.TheVariants as holders
use Rattle.t3_pools.specs.Pool.{Pool}
use Rattle.t3_store.specs.Store.{StoreValue}
use Rattle.t3_ops.specs.declared.fault.Fault.{Fault}
use Rattle.t3_ops.specs.Making.{when_read, fitting_list_of}
use Rattle.t3_ops.specs.Equality.{WalkResult, equal_of}
use Rattle.t3_kinds.specs.Changes.{Deed}
use Rattle.t3_kinds.specs.Deeds.{answers, answers_count, answers_new, when_ok, part_of}
use Rattle.t3_kinds.specs.declared.part.Part.{Part}

-- ---- length, sublist, append: of a list by its elements, which aren't read yet

abbrev pub list_length_of : Option (List Holder) → Result Deed Fault
list_length_of items = when_read items (λ items. answers_count (length items))

abbrev pub items_at_most : Option ℕ → List Holder → List Holder
items_at_most None items = items
items_at_most (Some count) items = take count items

-- the items of a part
abbrev pub items_in : Part → List Holder → List Holder
items_in part items = items_at_most part.count (drop part.skipped items)

abbrev pub part_of_list : StoreValue → Option (List Holder) → Part → Result Deed Fault
part_of_list store items part = when_read items (λ items. answers_new (fitting_list_of (items_in part items)) store)

abbrev pub sublist_of : StoreValue → Option (List Holder) → Holder → Option Holder → Result Deed Fault
sublist_of store items from count = when_ok (part_of from count) (part_of_list store items)

-- append: a new list with a value after the elements
abbrev pub list_append_of : StoreValue → Option (List Holder) → Holder → Result Deed Fault
list_append_of store items value = when_read items (λ items. answers_new (fitting_list_of (items ++ value ∷ [])) store)

-- ---- indexOf

-- the number of the first equal element, if there is one, and the turns that are left
abbrev pub Found : Type 0
Found = Result (Option ℕ × ℕ) Fault

-- what a search comes to after a comparison with the element of a number
abbrev pub found_after : WalkResult → ℕ → (ℕ → Found) → Found
found_after (Err fault) number rest = Err fault
found_after (Ok (true, turns)) number rest = Ok (Some number, turns)
found_after (Ok (false, turns)) number rest = rest turns

-- the elements are compared with a value one after the other, the first of which has that number
unfoldable pub found_from : Pool → StoreValue → ℕ → Holder → ℕ → List Holder → Found
found_from constants store turns value number [] = Ok (None, turns)
found_from constants store turns value number (item ∷ items) =
    found_after (equal_of constants store turns value item) number
    (λ turns. found_from constants store turns value (number + 1) items)

-- a deed with the turns that are left
abbrev pub with_turns : ℕ → Result Deed Fault → Result (Deed × ℕ) Fault
with_turns turns (Ok deed) = Ok (deed, turns)
with_turns turns (Err fault) = Err fault

abbrev pub answers_index : Option ℕ → Result Deed Fault
answers_index (Some number) = answers_count number
answers_index None = answers holders.Nil

abbrev pub found_deed : Found → Result (Deed × ℕ) Fault
found_deed (Ok found) = with_turns found.1 (answers_index found.0)
found_deed (Err fault) = Err fault

abbrev pub index_of : Pool → StoreValue → ℕ → Holder → List Holder → Result (Deed × ℕ) Fault
index_of constants store turns value items = found_deed (found_from constants store turns value 1 items)

abbrev pub list_index_of : Pool → StoreValue → ℕ → Option (List Holder) → Holder → Result (Deed × ℕ) Fault
list_index_of constants store turns items value = when_read items (index_of constants store turns value)
