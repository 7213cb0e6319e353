-- Elements and entries of good values, and lists with an element set, are good. Other crates may use
-- index_of-good and list_with_element_of-good.
use Rattle.std.proofs.Common.{ℕ, ℤ, nat_lt, List, [], ◌∷◌, length, set, Option, Some, None, Result, Ok, Err}
use Rattle.std.specs.Prelude.{ok_or, unwrap_or, option_and_then}
use Rattle.std.specs.List.{AllByRecursion, slice_get}
use Rattle.t3_holder.specs.declared.holder.Holder.{Holder}
use Rattle.t3_undo.specs.declared.key.Key.{Key}
use Rattle.t3_tables.specs.declared.pair.Pair.{Pair}
use Rattle.t3_pools.specs.Pool.{Pool}
use Rattle.t3_tables.specs.Entries.{value_under}
use Rattle.t3_store.specs.Store.{StoreValue}
use Rattle.t3_ops.specs.declared.fault.Fault.{Fault}
use Rattle.t3_ops.specs.declared.fault.Fault.TheVariants.{Kind, IndexRange, BadConstant}
use Rattle.t3_ops.specs.Values.{TextOrList, OfText, OfList, Neither, text_or_list_of, integer, kind_fault}
use Rattle.t3_ops.specs.Containers.{Container, OfElements, OfEntries, NoContainer, container_of}
use Rattle.t3_ops.specs.Keys.{key_of}
use Rattle.t3_ops.specs.Making.{when_read, when_in_range, fitting_list_of, new_object}
use Rattle.t3_ops.specs.Indexing.{element_index_of, element_in, entry_by, index_by, index_of, list_set, list_with_element_by, list_with_element_of}
use Rattle.t3_snapshot.specs.Good.{IsGoodTable}
use Rattle.t3_good_values.specs.Values.{IsClosed, HasGoodConstants, IsGoodResult}
use Rattle.t3_good_values.specs.Stores.{IsGoodStore, IsGoodMade}
use Rattle.t3_good_values.proofs.Lists.{IfThere, all-get, all-set}
use Rattle.t3_good_values.proofs.Outcomes.{good-needed, good-found, good-if, good-list_of, good-made}
use Rattle.t3_good_values.proofs.Parts.{HasGoodItems, HasGoodContents, good-items, good-contents}
use Rattle.t3_good_values.proofs.TableMethods.{good-under}
use Rattle.t3_good_values.proofs.Sums.{IsGoodOutcome}

-- ---- elements and entries

good-element : (Good : Holder → Type 0) (number : ℤ) (items : List Holder) → AllByRecursion Good items
    → IsGoodResult Good (element_in number items)
good-element Good number items all = at (element_index_of number)
  where
    there : (found : Option Holder) → IfThere Good found → IsGoodResult Good (ok_or found IndexRange)
    there None good = tt
    there (Some value) good = good

    at : (index : Option ℕ) → IsGoodResult Good (ok_or (option_and_then (slice_get items) index) IndexRange)
    at None = tt
    at (Some index) = there (slice_get items index) (all-get Good items index all)

good-unwrapped : (Good : Holder → Type 0) (found : Option Holder) (default : Holder) → IfThere Good found → Good default
    → Good (unwrap_or found default)
good-unwrapped Good None default good other = other
good-unwrapped Good (Some value) default good other = good

good-entry : (Good : Holder → Type 0) (key : Result Key Fault) (pairs : List Pair) (default : Holder) → IsGoodTable Good pairs default
    → IsGoodResult Good (entry_by key pairs default)
good-entry Good (Ok key) pairs default good =
    good-unwrapped Good (value_under key pairs) default (good-under Good key pairs good.pairs) good.default
good-entry Good (Err fault) pairs default good = tt

good-index_by : (Good : Holder → Type 0) (fault : Fault) (index : Option ℤ) (key : Result Key Fault) (container : Container)
    → HasGoodContents Good container → IsGoodResult Good (index_by fault index key container)
good-index_by Good fault index key (OfElements items) all =
    good-found Good Kind index (λ number. when_read items (element_in number))
    (λ number. good-needed (AllByRecursion Good) Good BadConstant items (element_in number) all (good-element Good number))
good-index_by Good fault index key (OfEntries pairs default) good = good-entry Good key pairs default good
good-index_by Good fault index key NoContainer good = tt

pub index_of-good : (Good : Holder → Type 0) (constants : Pool) (store : StoreValue) (container index : Holder) → IsClosed Good
    → HasGoodConstants Good constants → IsGoodStore Good store → Good container
    → IsGoodResult Good (index_of constants store container index)
index_of-good Good constants store container index closed listed stored good =
    good-index_by Good (kind_fault store (container ∷ [])) (integer index) (key_of constants store index)
    (container_of constants store container)
    (good-contents (record { closed = closed; constants_good = listed; store_good = stored }) container good)

-- ---- a list with an element set

good-list_set : (Good : Holder → Type 0) (value : Holder) → Good value → (items : List Holder) → AllByRecursion Good items → (index : ℕ)
    → IsGoodOutcome Good (list_set value items index)
good-list_set Good value good items all index =
    good-if (IsGoodMade Good) (nat_lt index (length items)) IndexRange (new_object (fitting_list_of (set items index value)))
    (good-made Good (fitting_list_of (set items index value))
    (good-list_of Good (set items index value) (all-set Good items index value good all)))

good-list_by : (Good : Holder → Type 0) (fault : Fault) (index : Option ℤ) (value : Holder) → Good value → (shape : TextOrList)
    → HasGoodItems Good shape → IsGoodOutcome Good (list_with_element_by fault index value shape)
good-list_by Good fault index value good (OfList items) all =
    good-found (IsGoodMade Good) Kind index
    (λ number. when_read items (λ items. when_in_range (element_index_of number) (list_set value items)))
    (λ number. good-needed (AllByRecursion Good) (IsGoodMade Good) BadConstant items
    (λ items. when_in_range (element_index_of number) (list_set value items)) all
    (λ items all. good-found (IsGoodMade Good) IndexRange (element_index_of number) (list_set value items)
    (good-list_set Good value good items all)))
good-list_by Good fault index value good (OfText bytes) all = tt
good-list_by Good fault index value good Neither all = tt

pub list_with_element_of-good : (Good : Holder → Type 0) (constants : Pool) (store : StoreValue) (list index value : Holder) → IsClosed Good
    → HasGoodConstants Good constants → IsGoodStore Good store → Good list → Good value
    → IsGoodOutcome Good (list_with_element_of constants store list index value)
list_with_element_of-good Good constants store list index value closed listed stored good also =
    good-list_by Good (kind_fault store (list ∷ [])) (integer index) value also (text_or_list_of constants store list)
    (good-items (record { closed = closed; constants_good = listed; store_good = stored }) list good)
