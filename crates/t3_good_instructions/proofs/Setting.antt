-- Setting a property, an element or an entry leaves all good.
use Rattle.std.proofs.Common.{ℕ, ◌<◌, ◌^◌, Bool, true, false, length, Option, Some, None, Result, Ok, Err}
use Rattle.t3_holder.specs.declared.holder.Holder.{Holder}
use Rattle.t3_holder.specs.declared.holder.Holder.TheVariants as holders
use Rattle.t3_pools.specs.Pool.{Pool}
use Rattle.t3_undo.specs.declared.cell.Cell.TheVariants as cells
use Rattle.t3_undo.specs.declared.key.Key.{Key}
use Rattle.t3_store.specs.Value.{Value, Vector, Table}
use Rattle.t3_store.specs.Store.{StoreValue, value_at, written}
use Rattle.t3_ops.specs.declared.fault.Fault.{Fault}
use Rattle.t3_ops.specs.declared.fault.Fault.TheVariants as faulty
use Rattle.t3_ops.specs.Values.{integer}
use Rattle.t3_ops.specs.Keys.{key_of}
use Rattle.t3_ops.specs.Elements.{after_writes, element_writes}
use Rattle.t3_ops.specs.Indexing.{vector_index_of, list_with_element_of}
use Rattle.t3_frame_instructions.specs.Context.{Context, with_store, faults}
use Rattle.t3_frame_instructions.specs.Making.{puts}
use Rattle.t3_object_instructions.specs.Search.{is_tads}
use Rattle.t3_object_instructions.specs.Setting.{takes_store, sets_in, sets, sets_popped, puts_written, sets_element, puts_or_fills, sets_entry, makes_list, sets_in_object, sets_item, sets_popped_item}
use Rattle.t3_good_values.specs.Values.{IsClosed, HasGoodConstants, IsGoodResult}
use Rattle.t3_good_values.specs.Stores.{IsGoodStore, IsGoodKeyIn}
use Rattle.t3_good_instructions.specs.Contexts.{IsGoodContext, IsGoodAction}
use Rattle.t3_good_values.proofs.StoreChanges.{good-elements}
use Rattle.t3_good_values.proofs.GoodKeys.{key_of-good}
use Rattle.t3_good_values.proofs.Indexing.{list_with_element_of-good}
use Rattle.t3_good_instructions.proofs.Actions.{Keeps, KeepsWith, KeepsWithTwo, stored, keeps-goes-on, keeps-faults, keeps-fills, keeps-puts, keeps-either, keeps-pops}
use Rattle.t3_good_instructions.proofs.Making.{IsGoodIfStored, good-writing, keeps-makes}

-- a number that a property can have
abbrev pub CanBeProperty : ℕ → Type 0
CanBeProperty number = (0 < number) × (number < 2 ^ 16)

module _ (Good : Holder → Type 0) where
  -- ---- a property

  keeps-stored : (store : Option StoreValue) → IsGoodIfStored Good store → Keeps Good (takes_store store)
  keeps-stored None there context has = keeps-fills Good context has
  keeps-stored (Some store) there context has = keeps-goes-on Good (with_store store context) (stored Good store context there has)

  keeps-set-in : (property number : ℕ) (value : Holder) (object : Option Value) → CanBeProperty property → Good value
      → Keeps Good (sets_in property number value object)
  keeps-set-in property number value None can good context has = keeps-faults Good faulty.Stale context has
  keeps-set-in property number value (Some object) can good context has =
      keeps-either Good (is_tads object) _ (faults faulty.CannotSet context)
      (keeps-stored (written number (cells.Prop property) value context.store)
      (good-writing Good number (cells.Prop property) value context.store can good has.store) context has)
      (keeps-faults Good faulty.CannotSet context has)

  keeps-set : (property : ℕ) (object : Holder) → CanBeProperty property → KeepsWith Good (sets property object)
  keeps-set property (holders.Obj number) can value good context has =
      keeps-set-in property number value (value_at context.store number) can good context has
  keeps-set property (holders.Text address) can value good context has = keeps-faults Good faulty.CannotSet context has
  keeps-set property (holders.List address) can value good context has = keeps-faults Good faulty.CannotSet context has
  keeps-set property _ can value good context has = keeps-faults Good faulty.NotObject context has

  pub keeps-set-popped : (property : ℕ) (object : Holder) → CanBeProperty property → Keeps Good (sets_popped property object)
  keeps-set-popped property object can context has = keeps-pops Good (sets property object) (keeps-set property object can) context has

  -- ---- an element or an entry

  keeps-put : (container : Holder) (made : Bool) (store : StoreValue) → Good container → IsGoodStore Good store
      → Keeps Good (puts_written container (made, store))
  keeps-put container true store good there context has =
      keeps-puts Good container good (with_store store context) (stored Good store context there has)
  keeps-put container false store good there context has = keeps-fills Good (with_store store context) (stored Good store context there has)

  keeps-put-or-full : (container : Holder) (store : Option StoreValue) → Good container → IsGoodIfStored Good store
      → Keeps Good (puts_or_fills container store)
  keeps-put-or-full container None good there context has = keeps-fills Good context has
  keeps-put-or-full container (Some store) good there context has =
      keeps-puts Good container good (with_store store context) (stored Good store context there has)

module _ (Good : Holder → Type 0) (closed : IsClosed Good) where
  keeps-element : (object length : ℕ) (value : Holder) (index : Result ℕ Fault) → Good (holders.Obj object) → Good value
      → Keeps Good (sets_element object length value index)
  keeps-element object length value (Err fault) at good context has = keeps-faults Good fault context has
  keeps-element object length value (Ok index) at good context has =
      let made = after_writes object (element_writes length index value) context.store in
      keeps-put Good (holders.Obj object) made.0 made.1 at
      (good-elements Good object length index value context.store closed good has.store) context has

  keeps-entry : (object : ℕ) (value : Holder) (key : Result Key Fault) (context : Context) → Good (holders.Obj object) → Good value
      → IsGoodResult (IsGoodKeyIn Good context.store) key → IsGoodContext Good context
      → IsGoodAction Good (sets_entry object value key context)
  keeps-entry object value (Err fault) context at good can has = keeps-faults Good fault context has
  keeps-entry object value (Ok key) context at good can has =
      keeps-put-or-full Good (holders.Obj object) (written object (cells.Key key) value context.store) at
      (good-writing Good object (cells.Key key) value context.store can good has.store) context has

  module _ (constants : Pool) (lists : HasGoodConstants Good constants) where
    keeps-list : (index list value : Holder) → Good list → Good value → Keeps Good (makes_list constants index list value)
    keeps-list index list value of good context has =
        keeps-makes Good closed (list_with_element_of constants context.store list index value) puts (keeps-puts Good) context
        (list_with_element_of-good Good constants context.store list index value closed lists has.store of good) has

    keeps-in-object : (index : Holder) (object : ℕ) (value : Holder) (at : Option Value) → Good index → Good (holders.Obj object)
        → Good value → Keeps Good (sets_in_object constants index object value at)
    keeps-in-object index object value (Some (Vector items)) by of good context has =
        keeps-element object (length items) value (vector_index_of (integer index)) of good context has
    keeps-in-object index object value (Some (Table pairs default)) by of good context has =
        keeps-entry object value (key_of constants context.store index) context of good
        (key_of-good Good constants context.store index closed lists has.store by) has
    keeps-in-object index object value _ by of good context has = keeps-list index (holders.Obj object) value of good context has

    keeps-item : (index container value : Holder) → Good index → Good container → Good value
        → Keeps Good (sets_item constants index container value)
    keeps-item index (holders.Obj object) value by of good context has =
        keeps-in-object index object value (value_at context.store object) by of good context has
    keeps-item index container value by of good context has = keeps-list index container value of good context has

    pub keeps-item-popped : KeepsWithTwo Good (sets_popped_item constants)
    keeps-item-popped index container by of context has =
        keeps-pops Good (sets_item constants index container)
        (λ value good context has. keeps-item index container value by of good context has) context has
