-- The methods of vectors change and answer what is good.
use Rattle.std.proofs.Common.{ℕ, zero, suc, ◌+◌, ◌-◌, Bool, true, false, nat_lt, if◌then◌else◌, List, [], ◌∷◌, length, drop, replicate, Option, Some, None, option_map, Result}
use Rattle.std.specs.Prelude.{option_and_then}
use Rattle.std.specs.List.{AllByRecursion}
use Rattle.t3_holder.specs.declared.holder.Holder.{Holder}
use Rattle.t3_holder.specs.declared.holder.Holder.TheVariants as holders
use Rattle.t3_undo.specs.declared.cell.Cell.TheVariants.{Elem}
use Rattle.t3_pools.specs.Pool.{Pool}
use Rattle.t3_store.specs.Value.{Value, Tads, Text, Items, Vector, Table}
use Rattle.t3_store.specs.Store.{StoreValue, value_at}
use Rattle.t3_ops.specs.declared.fault.Fault.{Fault}
use Rattle.t3_ops.specs.declared.fault.Fault.TheVariants.{Kind, IndexRange, ListLong}
use Rattle.t3_ops.specs.Values.{integer, kind_fault}
use Rattle.t3_ops.specs.Making.{when_in_range, count_of, fitting_list_of}
use Rattle.t3_ops.specs.Indexing.{element_index_of}
use Rattle.t3_kinds.specs.Changes.{Change, Sets}
use Rattle.t3_kinds.specs.declared.methods.VectorMethod.{VectorMethod}
use Rattle.t3_kinds.specs.declared.methods.VectorMethod.TheVariants as vector
use Rattle.t3_kinds.specs.Deeds.{first_of}
use Rattle.t3_kinds.specs.VectorMethods.{elements_of, vector_of, when_vector, answers_self, elements_set, elements_taken, length_changes, removing_changes, removal, to_list_of, vector_length_of, set_length_of, remove_element_of, vector_append_of}
use Rattle.t3_kinds.specs.Methods.{vector_deed}
use Rattle.t3_snapshot.specs.Good.{HasGoodParts}
use Rattle.t3_good_values.specs.Values.{IsClosed, IsGoodResult}
use Rattle.t3_good_values.specs.Stores.{IsGoodStore, IsGoodChange, IsGoodDeed}
use Rattle.t3_good_values.proofs.Lists.{IfThere, all-append, all-drop, all-replicate}
use Rattle.t3_good_values.proofs.Outcomes.{good-needed, good-found, good-if, good-list_of}
use Rattle.t3_good_values.proofs.Parts.{AreGiven, good-value}
use Rattle.t3_good_values.proofs.Deeds.{IsGoodAnswer, IsGoodDone, good-count, good-new, good-with_turns, good-first}
use Rattle.t3_good_values.proofs.ListMethods.{good-index_of}

-- ---- self

-- a reference, and elements that are good
abbrev pub IsGoodVector : (Holder → Type 0) → ℕ × List Holder → Type 0
IsGoodVector Good vector = Good (holders.Obj vector.0) × AllByRecursion Good vector.1

elements-of : (Good : Holder → Type 0) (number : ℕ) → Good (holders.Obj number) → (value : Option Value) → IfThere (HasGoodParts Good) value
    → IfThere (IsGoodVector Good) (option_map (λ items. (number, items)) (option_and_then elements_of value))
elements-of Good number self None good = tt
elements-of Good number self (Some (Vector items)) good = (self, good)
elements-of Good number self (Some (Tads supers class props)) good = tt
elements-of Good number self (Some (Text bytes)) good = tt
elements-of Good number self (Some (Items items)) good = tt
elements-of Good number self (Some (Table pairs default)) good = tt

vector-of : {Good : Holder → Type 0} {store : StoreValue} → IsGoodStore Good store → (this : Holder) → Good this
    → IfThere (IsGoodVector Good) (vector_of store this)
vector-of {Good} {store} good (holders.Obj number) self = elements-of Good number self (value_at store number) (good-value good number)
vector-of good this self = tt

pub good-when_vector : {Good : Holder → Type 0} {store : StoreValue} {A : Type 0} (Q : A → Type 0) → IsGoodStore Good store
    → (this : Holder)
    → Good this → (result : ℕ → List Holder → Result A Fault)
    → ((number : ℕ) (items : List Holder) → Good (holders.Obj number) → AllByRecursion Good items → IsGoodResult Q (result number items))
    → IsGoodResult Q (when_vector store this result)
good-when_vector {Good} {store} Q good this self result goes =
    good-needed (IsGoodVector Good) Q (kind_fault store (this ∷ [])) (vector_of store this) (λ vector. result vector.0 vector.1)
    (vector-of good this self) (λ vector parts. goes vector.0 vector.1 parts.0 parts.1)

-- ---- changes

good-set : (Good : Holder → Type 0) (object first : ℕ) (items : List Holder) → AllByRecursion Good items
    → AllByRecursion (IsGoodChange Good) (elements_set object first items)
good-set Good object first [] all = tt
good-set Good object first (item ∷ items) all = (all.0, good-set Good object (first + 1) items all.1)

good-taken : (Good : Holder → Type 0) (object last count : ℕ) → AllByRecursion (IsGoodChange Good) (elements_taken object last count)
good-taken Good object last zero = tt
good-taken Good object last (suc count) = (tt, good-taken Good object (last - 1) count)

good-length : {Good : Holder → Type 0} → IsClosed Good → (object length wanted : ℕ)
    → AllByRecursion (IsGoodChange Good) (length_changes object length wanted)
good-length {Good} closed object length wanted = by (nat_lt length wanted)
  where
    by : (grows : Bool) → AllByRecursion (IsGoodChange Good)
        (if grows then elements_set object (length + 1) (replicate (wanted - length) holders.Nil)
        else elements_taken object length (length - wanted))
    by true =
        good-set Good object (length + 1) (replicate (wanted - length) holders.Nil)
        (all-replicate Good (wanted - length) holders.Nil closed.nil)
    by false = good-taken Good object length (length - wanted)

good-self : (Good : Holder → Type 0) (number : ℕ) (changes : List Change) → Good (holders.Obj number)
    → AllByRecursion (IsGoodChange Good) changes → IsGoodAnswer Good (answers_self number changes)
good-self Good number changes self all = record { changes = all; answer = self }

good-removal : (Good : Holder → Type 0) (object : ℕ) (items : List Holder) → Good (holders.Obj object) → AllByRecursion Good items
    → (index : ℕ)
    → IsGoodAnswer Good (removal object items index)
good-removal Good object items self all index =
    good-if (IsGoodDeed Good) (nat_lt index (length items)) IndexRange (answers_self object (removing_changes object items index))
    (good-self Good object (removing_changes object items index) self
    (all-append (IsGoodChange Good) (elements_set object (index + 1) (drop (index + 1) items)) (Sets object (Elem (length items)) None ∷ [])
    (good-set Good object (index + 1) (drop (index + 1) items) (all-drop Good (index + 1) items all)) (tt, tt)))

-- ---- all of them

pub good-vector_deed : {Good : Holder → Type 0} {constants : Pool} {store : StoreValue} → AreGiven Good constants store → (turns : ℕ)
    (method : VectorMethod) (args : List Holder) → AllByRecursion Good args → (object : ℕ) (items : List Holder) → Good (holders.Obj object)
    → AllByRecursion Good items → IsGoodDone Good (vector_deed constants store turns method args object items)
good-vector_deed {Good} {constants} {store} given turns vector.ToList args given_args object items self all =
    good-with_turns Good turns (to_list_of store items)
    (good-new given.closed given.store_good (fitting_list_of items) (good-list_of Good items all))
good-vector_deed {Good} given turns vector.Length args given_args object items self all =
    good-with_turns Good turns (vector_length_of items) (good-count given.closed (length items))
good-vector_deed given turns vector.IndexOf args given_args object items self all = good-index_of given turns (first_of args) items
good-vector_deed {Good} given turns vector.SetLength args given_args object items self all =
    good-with_turns Good turns (set_length_of object items (first_of args))
    (good-found (IsGoodDeed Good) Kind (integer (first_of args))
    (λ wanted. when_in_range (count_of wanted) (λ wanted. answers_self object (length_changes object (length items) wanted)))
    (λ wanted. good-found (IsGoodDeed Good) IndexRange (count_of wanted)
    (λ wanted. answers_self object (length_changes object (length items) wanted))
    (λ wanted. good-self Good object (length_changes object (length items) wanted) self
    (good-length given.closed object (length items) wanted))))
good-vector_deed {Good} given turns vector.RemoveElementAt args given_args object items self all =
    good-with_turns Good turns (remove_element_of object items (first_of args))
    (good-found (IsGoodDeed Good) Kind (integer (first_of args)) (λ at. when_in_range (element_index_of at) (removal object items))
    (λ at. good-found (IsGoodDeed Good) IndexRange (element_index_of at) (removal object items) (good-removal Good object items self all)))
good-vector_deed {Good} given turns vector.Append args given_args object items self all =
    let value = first_of args in
    good-with_turns Good turns (vector_append_of object items value)
    (good-if (IsGoodDeed Good) (nat_lt (length items) 65535) ListLong
    (answers_self object (Sets object (Elem (length items + 1)) (Some value) ∷ []))
    (good-self Good object (Sets object (Elem (length items + 1)) (Some value) ∷ []) self (good-first given.closed args given_args, tt)))
