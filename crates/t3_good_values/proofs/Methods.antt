-- The methods of the kinds of objects change and answer what is good. Other crates may use listed_deed-good.
use Rattle.std.proofs.Common.{ℕ, List, length, Option, Some, None}
use Rattle.std.specs.List.{AllByRecursion}
use Rattle.t3_holder.specs.declared.holder.Holder.{Holder}
use Rattle.t3_pools.specs.Pool.{Pool}
use Rattle.t3_store.specs.Store.{StoreValue}
use Rattle.t3_ops.specs.declared.fault.Fault.TheVariants.{ArgCount}
use Rattle.t3_kinds.specs.Changes.{Deed}
use Rattle.t3_kinds.specs.declared.methods.Methods.{Methods}
use Rattle.t3_kinds.specs.declared.methods.Method.{Method}
use Rattle.t3_kinds.specs.declared.methods.Method.TheVariants as of
use Rattle.t3_kinds.specs.Deeds.{when_text}
use Rattle.t3_kinds.specs.TableMethods.{when_table}
use Rattle.t3_kinds.specs.Methods.{row_of, takes, method_at, root_deed, tads_deed, text_deed, list_deed, vector_deed, table_deed, method_deed, deed_by, listed_deed}
use Rattle.t3_good_values.specs.Values.{IsClosed, HasGoodConstants}
use Rattle.t3_good_values.specs.Stores.{IsGoodStore, IsGoodDeed}
use Rattle.t3_good_values.proofs.Outcomes.{good-if}
use Rattle.t3_good_values.proofs.Parts.{AreGiven}
use Rattle.t3_good_values.proofs.Deeds.{IsGoodDone, good-with_turns, good-when_text, good-when_list}
use Rattle.t3_good_values.proofs.RootMethods.{good-root, good-tads}
use Rattle.t3_good_values.proofs.TextMethods.{good-text_deed}
use Rattle.t3_good_values.proofs.ListMethods.{good-list_deed}
use Rattle.t3_good_values.proofs.VectorMethods.{good-when_vector, good-vector_deed}
use Rattle.t3_good_values.proofs.TableMethods.{good-when_table, good-table_deed}

module _ {Good : Holder → Type 0} {constants : Pool} {store : StoreValue} (given : AreGiven Good constants store) (turns : ℕ) where
  good-method : (method : Method) (this : Holder) → Good this → (args : List Holder) → AllByRecursion Good args
      → IsGoodDone Good (method_deed constants store turns method this args)
  unfolding method_deed
  good-method (of.Root method) this self args all =
      good-with_turns Good turns (root_deed store method this args) (good-root given.closed given.store_good method this args)
  good-method (of.Tads method) this self args all =
      good-with_turns Good turns (tads_deed store method this) (good-tads given.closed given.store_good method this)
  good-method (of.Text method) this self args all =
      good-with_turns Good turns (when_text constants store this (text_deed constants store method args))
      (good-when_text (IsGoodDeed Good) given this (text_deed constants store method args) (good-text_deed given method args))
  good-method (of.List method) this self args all =
      good-when_list (λ (done : Deed × ℕ). IsGoodDeed Good done.0) given this self (list_deed constants store turns method args)
      (good-list_deed given turns method args all)
  good-method (of.Vector method) this self args all =
      good-when_vector (λ (done : Deed × ℕ). IsGoodDeed Good done.0) given.store_good this self
      (vector_deed constants store turns method args)
      (good-vector_deed given turns method args all)
  good-method (of.Table method) this self args all =
      good-with_turns Good turns (when_table store this (table_deed constants store method args))
      (good-when_table (IsGoodDeed Good) given.store_good this self (table_deed constants store method args)
      (good-table_deed given method args all))

  good-by : (this : Holder) → Good this → (args : List Holder) → AllByRecursion Good args → (method : Option Method)
      → IsGoodDone Good (deed_by constants store turns this args method)
  good-by this self args all None = tt
  good-by this self args all (Some method) =
      good-if (λ (done : Deed × ℕ). IsGoodDeed Good done.0) (takes (row_of method) (length args)) ArgCount
      (method_deed constants store turns method this args) (good-method method this self args all)

  pub good-listed_deed : (kind : Methods) (index : ℕ) (this : Holder) → Good this → (args : List Holder) → AllByRecursion Good args
      → IsGoodDone Good (listed_deed constants store turns kind index this args)
  good-listed_deed kind index this self args all = good-by this self args all (method_at kind index)

pub listed_deed-good : (Good : Holder → Type 0) (constants : Pool) (store : StoreValue) (turns : ℕ) (kind : Methods) (index : ℕ)
    (this : Holder) (args : List Holder) → IsClosed Good → HasGoodConstants Good constants → IsGoodStore Good store → Good this
    → AllByRecursion Good args → IsGoodDone Good (listed_deed constants store turns kind index this args)
listed_deed-good Good constants store turns kind index this args closed listed good self all =
    good-listed_deed (record { closed = closed; constants_good = listed; store_good = good }) turns kind index this self args all
