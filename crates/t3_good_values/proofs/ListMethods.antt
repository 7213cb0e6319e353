-- The methods of lists answer what is good.
use Rattle.std.proofs.Common.{ℕ, List, [], ◌∷◌, ◌++◌, length, drop, Option, Some, None, Ok, Err}
use Rattle.std.specs.List.{AllByRecursion}
use Rattle.t3_holder.specs.declared.holder.Holder.{Holder}
use Rattle.t3_holder.specs.declared.holder.Holder.TheVariants as holders
use Rattle.t3_pools.specs.Pool.{Pool}
use Rattle.t3_store.specs.Store.{StoreValue}
use Rattle.t3_ops.specs.declared.fault.Fault.TheVariants.{BadConstant}
use Rattle.t3_ops.specs.Making.{fitting_list_of}
use Rattle.t3_kinds.specs.Changes.{Deed}
use Rattle.t3_kinds.specs.declared.methods.ListMethod.{ListMethod}
use Rattle.t3_kinds.specs.declared.methods.ListMethod.TheVariants as list
use Rattle.t3_kinds.specs.declared.part.Part.{Part}
use Rattle.t3_kinds.specs.Deeds.{answers_count, answers_new, first_of, second_of, part_of}
use Rattle.t3_kinds.specs.ListMethods.{Found, found_from, found_deed, answers_index, index_of, list_length_of, items_at_most, items_in, part_of_list, sublist_of, list_append_of}
use Rattle.t3_kinds.specs.Methods.{list_deed}
use Rattle.t3_good_values.specs.Values.{IsClosed}
use Rattle.t3_good_values.specs.Stores.{IsGoodDeed}
use Rattle.t3_good_values.proofs.Lists.{IfThere, all-append, all-take, all-drop}
use Rattle.t3_good_values.proofs.Outcomes.{good-needed, good-found, good-list_of}
use Rattle.t3_good_values.proofs.Parts.{AreGiven}
use Rattle.t3_good_values.proofs.Deeds.{IsGoodAnswer, IsGoodDone, good-answer, good-count, good-new, good-ok, good-with_turns, good-first}

-- ---- parts

at-most : (Good : Holder → Type 0) (count : Option ℕ) (items : List Holder) → AllByRecursion Good items
    → AllByRecursion Good (items_at_most count items)
at-most Good None items all = all
at-most Good (Some count) items all = all-take Good count items all

items-in : (Good : Holder → Type 0) (part : Part) (items : List Holder) → AllByRecursion Good items
    → AllByRecursion Good (items_in part items)
items-in Good part items all = at-most Good part.count (drop part.skipped items) (all-drop Good part.skipped items all)

good-part : {Good : Holder → Type 0} {constants : Pool} {store : StoreValue} → AreGiven Good constants store
    → (items : Option (List Holder))
    → IfThere (AllByRecursion Good) items → (part : Part) → IsGoodAnswer Good (part_of_list store items part)
good-part {Good} {constants} {store} given items all part =
    good-needed (AllByRecursion Good) (IsGoodDeed Good) BadConstant items
    (λ items. answers_new (fitting_list_of (items_in part items)) store) all
    (λ items all. good-new given.closed given.store_good (fitting_list_of (items_in part items))
    (good-list_of Good (items_in part items) (items-in Good part items all)))

-- ---- searching

good-index : {Good : Holder → Type 0} → IsClosed Good → (index : Option ℕ) → IsGoodAnswer Good (answers_index index)
good-index closed (Some number) = good-count closed number
good-index {Good} closed None = good-answer Good holders.Nil closed.nil

good-found_deed : {Good : Holder → Type 0} → IsClosed Good → (found : Found) → IsGoodDone Good (found_deed found)
good-found_deed {Good} closed (Ok found) = good-with_turns Good found.1 (answers_index found.0) (good-index closed found.0)
good-found_deed closed (Err fault) = tt

pub good-index_of : {Good : Holder → Type 0} {constants : Pool} {store : StoreValue} → AreGiven Good constants store → (turns : ℕ)
    (value : Holder) (items : List Holder) → IsGoodDone Good (index_of constants store turns value items)
good-index_of {Good} {constants} {store} given turns value items =
    good-found_deed given.closed (found_from constants store turns value 1 items)

-- ---- all of them

pub good-list_deed : {Good : Holder → Type 0} {constants : Pool} {store : StoreValue} → AreGiven Good constants store → (turns : ℕ)
    (method : ListMethod) (args : List Holder) → AllByRecursion Good args → (items : Option (List Holder))
    → IfThere (AllByRecursion Good) items → IsGoodDone Good (list_deed constants store turns method args items)
good-list_deed {Good} given turns list.Length args given_args items all =
    good-with_turns Good turns (list_length_of items)
    (good-found (IsGoodDeed Good) BadConstant items (λ items. answers_count (length items))
    (λ items. good-count given.closed (length items)))
good-list_deed {Good} {constants} {store} given turns list.Sublist args given_args items all =
    good-with_turns Good turns (sublist_of store items (first_of args) (second_of args))
    (good-ok (IsGoodDeed Good) (part_of (first_of args) (second_of args)) (part_of_list store items) (good-part given items all))
good-list_deed {Good} {constants} {store} given turns list.IndexOf args given_args items all =
    good-found (λ (done : Deed × ℕ). IsGoodDeed Good done.0) BadConstant items (index_of constants store turns (first_of args))
    (λ items. good-index_of given turns (first_of args) items)
good-list_deed {Good} {constants} {store} given turns list.Append args given_args items all =
    let value = first_of args in
    good-with_turns Good turns (list_append_of store items value)
    (good-needed (AllByRecursion Good) (IsGoodDeed Good) BadConstant items
    (λ items. answers_new (fitting_list_of (items ++ value ∷ [])) store) all
    (λ items all. good-new given.closed given.store_good (fitting_list_of (items ++ value ∷ []))
    (good-list_of Good (items ++ value ∷ [])
    (all-append Good items (value ∷ []) all (good-first given.closed args given_args, tt)))))
