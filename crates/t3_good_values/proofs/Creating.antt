-- The values of new objects are good where the arguments of their creation are. Other crates may use
-- new_string_of-good, new_list_of-good, new_vector_of-good and new_table_of-good.
use Rattle.std.proofs.Common.{refl, ℤ, pos, List, [], ◌∷◌, replicate, Option, Some, None, Result, Ok, Err}
use Rattle.std.specs.List.{AllByRecursion}
use Rattle.t3_holder.specs.declared.holder.Holder.{Holder}
use Rattle.t3_holder.specs.declared.holder.Holder.TheVariants as holders
use Rattle.t3_pools.specs.Pool.{Pool}
use Rattle.t3_store.specs.Value.{Value}
use Rattle.t3_store.specs.Store.{StoreValue}
use Rattle.t3_ops.specs.declared.fault.Fault.{Fault}
use Rattle.t3_ops.specs.declared.fault.Fault.TheVariants.{Kind, IndexRange, BadConstant}
use Rattle.t3_ops.specs.Values.{TextOrList, OfText, OfList, Neither, text_or_list_of, integer, kind_fault}
use Rattle.t3_ops.specs.Containers.{Container, OfElements, OfEntries, NoContainer, container_of}
use Rattle.t3_ops.specs.Making.{when_integer, when_in_range, count_of, fitting_vector_of}
use Rattle.t3_ops.specs.Creating.{string_by, new_string_of, new_list_of, empty_table, table_of_two, new_table_of, Filling, Nils, Elements, element_filling, nils_or, filling_of, filled_vector, vector_by, new_vector_of}
use Rattle.t3_snapshot.specs.State.{named_as_keys}
use Rattle.t3_good_values.specs.Values.{IsClosed, HasGoodConstants, IsGoodNew, IsGoodResult}
use Rattle.t3_good_values.specs.Stores.{IsGoodStore}
use Rattle.t3_good_values.proofs.Lists.{IfThere, all-replicate}
use Rattle.t3_good_values.proofs.Outcomes.{good-needed, good-found, good-text_of, good-list_of, good-vector_of}
use Rattle.t3_good_values.proofs.Parts.{AreGiven, HasUtf8, HasGoodContents, good-utf8, good-contents}

-- what is made is good, if it is no fault
abbrev IsGoodMaking : (Holder → Type 0) → Result Value Fault → Type 0
IsGoodMaking Good result = IsGoodResult (IsGoodNew Good) result

-- ---- strings and lists

good-string_by : (Good : Holder → Type 0) (fault : Fault) (shape : TextOrList) → HasUtf8 shape → IsGoodMaking Good (string_by fault shape)
good-string_by Good fault (OfText None) utf8 = tt
good-string_by Good fault (OfText (Some bytes)) utf8 = good-text_of Good bytes utf8
good-string_by Good fault (OfList items) utf8 = tt
good-string_by Good fault Neither utf8 = tt

pub new_string_of-good : (Good : Holder → Type 0) (constants : Pool) (store : StoreValue) (args : List Holder) → IsGoodStore Good store
    → IsGoodMaking Good (new_string_of constants store args)
new_string_of-good Good constants store [] stored = tt
new_string_of-good Good constants store (text ∷ []) stored =
    good-string_by Good (kind_fault store (text ∷ [])) (text_or_list_of constants store text) (good-utf8 stored constants text)
new_string_of-good Good constants store (text ∷ other ∷ args) stored = tt

pub new_list_of-good : (Good : Holder → Type 0) (args : List Holder) → AllByRecursion Good args → IsGoodMaking Good (new_list_of args)
new_list_of-good Good args all = good-list_of Good args all

-- ---- tables

good-empty : {Good : Holder → Type 0} → IsClosed Good → IsGoodNew Good empty_table
unfolding named_as_keys
good-empty closed = record { parts = record { pairs = tt; default = closed.nil }; keyless = refl }

good-of_two : {Good : Holder → Type 0} → IsClosed Good → (x y : Option ℤ) → IsGoodMaking Good (table_of_two x y)
good-of_two {Good} closed x y =
    good-found (IsGoodNew Good) Kind x (λ _. when_integer y (λ _. Ok empty_table))
    (λ _. good-found (IsGoodNew Good) Kind y (λ _. Ok empty_table) (λ _. good-empty closed))

pub new_table_of-good : (Good : Holder → Type 0) (args : List Holder) → IsClosed Good → IsGoodMaking Good (new_table_of args)
new_table_of-good Good [] closed = good-empty closed
new_table_of-good Good (x ∷ []) closed = tt
new_table_of-good Good (x ∷ y ∷ []) closed = good-of_two closed (integer x) (integer y)
new_table_of-good Good (x ∷ y ∷ z ∷ args) closed = tt

-- ---- vectors

abbrev IsGoodFilling : (Holder → Type 0) → Filling → Type 0
IsGoodFilling Good (Nils count) = Unit {0}
IsGoodFilling Good (Elements items) = IfThere (AllByRecursion Good) items

good-element_filling : (Good : Holder → Type 0) (fault : Fault) (container : Container) → HasGoodContents Good container
    → IsGoodResult (IsGoodFilling Good) (element_filling fault container)
good-element_filling Good fault (OfElements items) all = all
good-element_filling Good fault (OfEntries pairs default) all = tt
good-element_filling Good fault NoContainer all = tt

good-nils_or : (Good : Holder → Type 0) (count : Option ℤ) (otherwise : Result Filling Fault) → IsGoodResult (IsGoodFilling Good) otherwise
    → IsGoodResult (IsGoodFilling Good) (nils_or count otherwise)
good-nils_or Good (Some count) otherwise good = tt
good-nils_or Good None otherwise good = good

good-filling : {Good : Holder → Type 0} {constants : Pool} {store : StoreValue} → AreGiven Good constants store → (value : Holder)
    → Good value
    → IsGoodResult (IsGoodFilling Good) (filling_of constants store value)
good-filling {Good} {constants} {store} given value good =
    let fault = kind_fault store (value ∷ []) in
    good-nils_or Good (integer value) (element_filling fault (container_of constants store value))
    (good-element_filling Good fault (container_of constants store value) (good-contents given value good))

good-filled : {Good : Holder → Type 0} → IsClosed Good → (filling : Filling) → IsGoodFilling Good filling
    → IsGoodMaking Good (filled_vector filling)
good-filled {Good} closed (Nils count) good =
    good-found (IsGoodNew Good) IndexRange (count_of count) (λ count. fitting_vector_of (replicate count holders.Nil))
    (λ count. good-vector_of Good (replicate count holders.Nil) (all-replicate Good count holders.Nil closed.nil))
good-filled {Good} closed (Elements items) good =
    good-needed (AllByRecursion Good) (IsGoodNew Good) BadConstant items fitting_vector_of good (good-vector_of Good)

good-vector_by : {Good : Holder → Type 0} → IsClosed Good → (size : Option ℤ) (filling : Result Filling Fault)
    → IsGoodResult (IsGoodFilling Good) filling → IsGoodMaking Good (vector_by size filling)
good-vector_by {Good} closed size (Ok filling) good =
    good-found (IsGoodNew Good) Kind size (λ size. when_in_range (count_of size) (λ _. filled_vector filling))
    (λ size. good-found (IsGoodNew Good) IndexRange (count_of size) (λ _. filled_vector filling) (λ _. good-filled closed filling good))
good-vector_by closed size (Err fault) good = tt

pub new_vector_of-good : (Good : Holder → Type 0) (constants : Pool) (store : StoreValue) (args : List Holder) → IsClosed Good
    → HasGoodConstants Good constants → IsGoodStore Good store → AllByRecursion Good args
    → IsGoodMaking Good (new_vector_of constants store args)
new_vector_of-good Good constants store [] closed listed stored all = tt
new_vector_of-good Good constants store (size ∷ []) closed listed stored all = good-vector_by closed (integer size) (Ok (Nils (pos 0))) tt
new_vector_of-good Good constants store (size ∷ filling ∷ []) closed listed stored all =
    good-vector_by closed (integer size) (filling_of constants store filling)
    (good-filling (record { closed = closed; constants_good = listed; store_good = stored }) filling all.1.0)
new_vector_of-good Good constants store (x ∷ y ∷ z ∷ args) closed listed stored all = tt
