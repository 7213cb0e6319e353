-- The methods of vectors (the chapter on vectors, in this project's profile).
use Rattle.std.specs.Prelude.{ℕ, zero, suc, ◌+◌, ◌-◌, nat_lt, List, [], ◌∷◌, ◌++◌, length, drop, replicate, Option, Some, None, option_map, option_and_then, Result, Ok, Err, if◌then◌else◌}
use Rattle.t3_holder.specs.declared.holder.Holder.{Holder}
use Rattle.t3_holder.specs.declared.holder.Holder.TheVariants as holders
use Rattle.t3_undo.specs.declared.cell.Cell.TheVariants.{Elem}
use Rattle.t3_store.specs.Value.{Value, Tads, Text, Items, Vector, Table}
use Rattle.t3_store.specs.Store.{StoreValue, value_at}
use Rattle.t3_ops.specs.declared.fault.Fault.{Fault}
use Rattle.t3_ops.specs.declared.fault.Fault.TheVariants.{IndexRange, ListLong}
use Rattle.t3_ops.specs.Values.{integer, kind_fault}
use Rattle.t3_ops.specs.Making.{unless_none, when_integer, when_in_range, count_of, fitting_list_of}
use Rattle.t3_ops.specs.Indexing.{element_index_of}
use Rattle.t3_kinds.specs.Changes.{Change, Sets, Deed}
use Rattle.t3_kinds.specs.Deeds.{answers_count, answers_new}

-- ---- self

abbrev pub elements_of : Value → Option (List Holder)
elements_of (Vector items) = Some items
elements_of (Tads supers class props) = None
elements_of (Text bytes) = None
elements_of (Items items) = None
elements_of (Table pairs default) = None

-- the number and the elements of the vector that a value is
abbrev pub vector_of : StoreValue → Holder → Option (ℕ × List Holder)
vector_of store (holders.Obj number) = option_map (λ items. (number, items)) (option_and_then elements_of (value_at store number))
vector_of store _ = None

-- goes on with them; what is no vector is a fault
abbrev pub when_vector : {A : Type 0} → StoreValue → Holder → (ℕ → List Holder → Result A Fault) → Result A Fault
when_vector store this result =
    unless_none (kind_fault store (this ∷ [])) (vector_of store this) (λ vector. result vector.0 vector.1)

-- changes to self, which is the answer
abbrev pub answers_self : ℕ → List Change → Result Deed Fault
answers_self number changes = Ok (record { changes = changes; answer = holders.Obj number })

-- ---- toList, length

abbrev pub to_list_of : StoreValue → List Holder → Result Deed Fault
to_list_of store items = answers_new (fitting_list_of items) store

abbrev pub vector_length_of : List Holder → Result Deed Fault
vector_length_of items = answers_count (length items)

-- ---- setLength: further elements are nil, in rising order, or the last are taken away, from the last one down

-- elements are set one after the other, from the one of a number on
abbrev pub elements_set : (object first : ℕ) → List Holder → List Change
elements_set object first [] = []
elements_set object first (item ∷ items) = Sets object (Elem first) (Some item) ∷ elements_set object (first + 1) items

-- so many elements are taken away, of which the last one has that number
abbrev pub elements_taken : (object last count : ℕ) → List Change
elements_taken object last zero = []
elements_taken object last (suc count) = Sets object (Elem last) None ∷ elements_taken object (last - 1) count

abbrev pub length_changes : (object length wanted : ℕ) → List Change
length_changes object length wanted =
    if nat_lt length wanted then elements_set object (length + 1) (replicate (wanted - length) holders.Nil)
    else elements_taken object length (length - wanted)

abbrev pub set_length_of : (object : ℕ) → List Holder → Holder → Result Deed Fault
set_length_of object items wanted =
    when_integer (integer wanted)
    (λ wanted. when_in_range (count_of wanted) (λ wanted. answers_self object (length_changes object (length items) wanted)))

-- ---- removeElementAt: the elements after it move down, in rising order, and then the last one is taken away

abbrev pub removing_changes : (object : ℕ) → List Holder → (index : ℕ) → List Change
removing_changes object items index =
    elements_set object (index + 1) (drop (index + 1) items) ++ Sets object (Elem (length items)) None ∷ []

-- the element of an index is removed, from 0 on
abbrev pub removal : (object : ℕ) → List Holder → (index : ℕ) → Result Deed Fault
removal object items index =
    if nat_lt index (length items) then answers_self object (removing_changes object items index) else Err IndexRange

abbrev pub remove_element_of : (object : ℕ) → List Holder → Holder → Result Deed Fault
remove_element_of object items at =
    when_integer (integer at) (λ at. when_in_range (element_index_of at) (removal object items))

-- ---- append: one more element

abbrev pub vector_append_of : (object : ℕ) → List Holder → Holder → Result Deed Fault
vector_append_of object items value =
    if nat_lt (length items) 65535 then answers_self object (Sets object (Elem (length items + 1)) (Some value) ∷ []) else Err ListLong
