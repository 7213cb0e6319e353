-- Elements and entries by their index, and a list with an element set (the chapters on the instruction set and on metaclasses, in this
-- project's profile).
use Rattle.std.specs.Prelude.{ℕ, ◌-◌, ℤ, pos, negsuc, ◌&&◌, nat_lt, nat_le, List, [], ◌∷◌, length, Option, Some, None, ok_or, unwrap_or, option_and_then, Result, Ok, Err, slice_get, slice_set, if◌then◌else◌}
use Rattle.t3_holder.specs.declared.holder.Holder.{Holder}
use Rattle.t3_undo.specs.declared.key.Key.{Key}
use Rattle.t3_tables.specs.declared.pair.Pair.{Pair}
use Rattle.t3_pools.specs.Pool.{Pool}
use Rattle.t3_tables.specs.Entries.{value_under}
use Rattle.t3_store.specs.Store.{StoreValue}
use Rattle.t3_ops.specs.declared.fault.Fault.{Fault}
use Rattle.t3_ops.specs.declared.fault.Fault.TheVariants.{IndexRange}
use Rattle.t3_ops.specs.Values.{TextOrList, OfText, OfList, Neither, text_or_list_of, integer, kind_fault}
use Rattle.t3_ops.specs.Containers.{Container, OfElements, OfEntries, NoContainer, container_of}
use Rattle.t3_ops.specs.Keys.{key_of}
use Rattle.t3_ops.specs.Making.{Made, when_integer, when_read, when_in_range, new_object, fitting_list_of}

-- the index, from 0 on, of the element of a number, from 1 on
abbrev pub element_index_of : ℤ → Option ℕ
element_index_of (pos n) = if nat_lt 0 n then Some (n - 1) else None
element_index_of (negsuc n) = None

-- the element of a number
abbrev pub element_in : ℤ → List Holder → Result Holder Fault
element_in number items = ok_or (option_and_then (slice_get items) (element_index_of number)) IndexRange

-- the fault of an index that is no integer comes first, then that of a constant, then that of the range
abbrev pub element_by : Option ℤ → Option (List Holder) → Result Holder Fault
element_by index elements = when_integer index (λ number. when_read elements (element_in number))

-- the value under a key, or the default
abbrev pub entry_by : Result Key Fault → List Pair → Holder → Result Holder Fault
entry_by (Err fault) pairs default = Err fault
entry_by (Ok key) pairs default = Ok (unwrap_or (value_under key pairs) default)

abbrev pub index_by : Fault → Option ℤ → Result Key Fault → Container → Result Holder Fault
index_by fault index key (OfElements elements) = element_by index elements
index_by fault index key (OfEntries pairs default) = entry_by key pairs default
index_by fault index key NoContainer = Err fault

-- what a container has at an index; the fault of what is no container comes before those of its index
abbrev pub index_of : Pool → StoreValue → Holder → Holder → Result Holder Fault
index_of constants store container index =
    index_by (kind_fault store (container ∷ [])) (integer index) (key_of constants store index) (container_of constants store container)

-- ---- a list with an element set, which is a new list

-- the element of an index, from 0 on, where there is one, set to that value
abbrev pub list_set : Holder → List Holder → ℕ → Result Made Fault
list_set value items index =
    if nat_lt index (length items) then new_object (fitting_list_of (slice_set items index value)) else Err IndexRange

abbrev pub list_with_element_by : Fault → Option ℤ → Holder → TextOrList → Result Made Fault
list_with_element_by fault index value (OfList elements) =
    when_integer index (λ number. when_read elements (λ items. when_in_range (element_index_of number) (list_set value items)))
list_with_element_by fault index value (OfText _) = Err fault
list_with_element_by fault index value Neither = Err fault

abbrev pub list_with_element_of : Pool → StoreValue → Holder → Holder → Holder → Result Made Fault
list_with_element_of constants store list index value =
    list_with_element_by (kind_fault store (list ∷ [])) (integer index) value (text_or_list_of constants store list)

-- ---- an element of a vector

-- the number of an element that a vector may have: from 1 to 65,535
abbrev pub vector_number : ℤ → Result ℕ Fault
vector_number (pos n) = if nat_lt 0 n && nat_le n 65535 then Ok n else Err IndexRange
vector_number (negsuc n) = Err IndexRange

abbrev pub vector_index_of : Option ℤ → Result ℕ Fault
vector_index_of index = when_integer index vector_number
