-- Evaluating a property, and calling what is found, leave all good.
use Rattle.std.proofs.Common.{ℕ, ◌==◌, ◌<◌, ◌^◌, Bool, true, false, List, Option, Some, None, Result, Ok, Err, arith}
use Rattle.t3_holder.specs.declared.holder.Holder.{Holder}
use Rattle.t3_holder.specs.declared.holder.Holder.TheVariants as holders
use Rattle.t3_store.specs.Value.{Value, kind_of}
use Rattle.t3_store.specs.Store.{StoreValue, value_at}
use Rattle.t3_store.specs.declared.kind.Kind.{Kind}
use Rattle.t3_store.specs.declared.kind.Kind.TheVariants as kinds
use Rattle.t3_ops.specs.declared.fault.Fault.{Fault}
use Rattle.t3_ops.specs.declared.fault.Fault.TheVariants as faulty
use Rattle.t3_load.specs.Loading.{ProgramValue}
use Rattle.t3_load.specs.declared.kinds.MetaKind.{MetaKind}
use Rattle.t3_kinds.specs.Search.{property_of}
use Rattle.t3_kinds.specs.declared.methods.Methods.{Methods}
use Rattle.t3_kinds.specs.Methods.{listed_deed}
use Rattle.t3_kinds.specs.Changes.{Deed, changed}
use Rattle.t3_frames.specs.Frame.{function_on}
use Rattle.t3_frame_instructions.specs.Context.{Context, Action, with_store, faults, calls}
use Rattle.t3_frame_instructions.specs.Relations.{turn_limit}
use Rattle.t3_object_instructions.specs.Search.{tads_object, inherited_of, method_of, metaclasses_of}
use Rattle.t3_object_instructions.specs.Listed.{methods_by, instance_by, answers_changed, deed_action, listed_by, listed_action}
use Rattle.t3_object_instructions.specs.Evaluating.{by_property, unless_argued, found_action, method_action, asks, found_or_asks, of_object, evaluates, found_or_nil, searches_in, delegates, searches_behind, inherits}
use Rattle.t3_object_instructions.specs.Saying.{says_by, saying}
use Rattle.t3_object_instructions.specs.Creating.{arguments, supers_by}
use Rattle.t3_good_values.specs.Values.{IsGoodResult}
use Rattle.t3_good_values.specs.Stores.{IsGoodStore, IsGoodDeed}
use Rattle.t3_good_instructions.specs.Contexts.{IsGoodProgram, IsGoodContext, IsGoodAction, IsGoodSay}
use Rattle.t3_good_values.proofs.StoreChanges.{good-after_changes}
use Rattle.t3_good_values.proofs.Methods.{listed_deed-good}
use Rattle.t3_good_instructions.proofs.Actions.{Keeps, KeepsWith, stored, keeps-faults, keeps-fills, keeps-calls, keeps-answers, keeps-either}
use Rattle.t3_good_instructions.proofs.Finding.{IsGoodIfFound, good-property_of, good-inherited_of}
use Rattle.t3_good_instructions.proofs.Creating.{good-arguments, good-supers_by, keeps-tads}

module _ (Good : Holder → Type 0) (program : ProgramValue) (good : IsGoodProgram Good program) where
  -- ---- saying

  pub keeps-said : KeepsWith Good saying
  keeps-said value is context has = by context.say
    where
      by : (say : Option ℕ) → IsGoodAction Good (says_by say value context)
      by None = keeps-faults Good faulty.NoSay context has
      by (Some method) =
          keeps-calls Good (function_on method value)
          (record { laid = is; this = good.closed.nil; gives = tt; count = omega arith }) context has

  -- ---- methods of metaclasses

  keeps-changed : (value : Holder) (count : ℕ) (made : Bool) (store : StoreValue) (context : Context) → Good value → IsGoodStore Good store
      → IsGoodContext Good context → IsGoodAction Good (answers_changed value count (made, store) context)
  keeps-changed value count true store context is there has =
      keeps-answers Good value count is (with_store store context) (stored Good store context there has)
  keeps-changed value count false store context is there has =
      keeps-fills Good (with_store store context) (stored Good store context there has)

  keeps-deed : (wanted : Result (Deed × ℕ) Fault) (count : ℕ) → IsGoodResult (λ done. IsGoodDeed Good done.0) wanted
      → Keeps Good (deed_action wanted count)
  keeps-deed (Err fault) count deed context has = keeps-faults Good fault context has
  keeps-deed (Ok done) count deed context has =
      let made = changed done.0.changes context.store in
      keeps-changed done.0.answer count made.0 made.1 context deed.answer
      (good-after_changes Good done.0.changes context.store good.closed deed.changes has.store) has

  keeps-listed-by : (kind : Methods) (index : ℕ) (this : Holder) (count : ℕ) (instance : Option Bool) → count < 2 ^ 16 → Good this
      → Keeps Good (listed_by program kind index this count instance)
  keeps-listed-by kind index this count (Some transient) few is context has =
      keeps-tads Good program good transient 0 count (supers_by context.store transient this) few
      (good-supers_by Good context.store transient this is) context has
  keeps-listed-by kind index this count None few is context has =
      keeps-deed (listed_deed program.pools.constants context.store turn_limit kind index this (arguments count context)) count
      (listed_deed-good Good program.pools.constants context.store turn_limit kind index this (arguments count context) good.closed
      good.constants has.store is (good-arguments Good count context has)) context has

  keeps-listed : (kind : Option Methods) (index : ℕ) (this : Holder) (count : ℕ) → count < 2 ^ 16 → Good this
      → Keeps Good (listed_action program kind index this count)
  keeps-listed None index this count few is context has = keeps-faults Good faulty.NoMethod context has
  keeps-listed (Some kind) index this count few is context has =
      keeps-listed-by kind index this count (instance_by kind index) few is context has

  keeps-method : (this : Holder) (method : Option (MetaKind × ℕ)) (count : ℕ) → count < 2 ^ 16 → Good this
      → Keeps Good (method_action program this method count)
  keeps-method this None count few is context has = keeps-answers Good holders.Nil count good.closed.nil context has
  keeps-method this (Some method) count few is context has = keeps-listed (methods_by method.0) method.1 this count few is context has

  keeps-asked : (property count : ℕ) (this : Holder) (kind : Kind) → count < 2 ^ 16 → Good this
      → Keeps Good (asks program property count this kind)
  keeps-asked property count this kind few is context has =
      keeps-method this (method_of program.kinds property (metaclasses_of kind)) count few is context has

  -- ---- what is found

  pub keeps-unargued : (count : ℕ) (action : Action) (context : Context) → IsGoodAction Good action → IsGoodContext Good context
      → IsGoodAction Good (unless_argued count action context)
  keeps-unargued count action context done has =
      keeps-either Good (count == 0) action (faults faulty.ArgCount context) done (keeps-faults Good faulty.ArgCount context has)

  keeps-found : (this : Holder) (defining : ℕ) (value : Holder) (count : ℕ) → count < 2 ^ 16 → Good this → Good value
      → Keeps Good (found_action this defining value count)
  keeps-found this defining (holders.Code method) count few is there context has =
      keeps-calls Good (record { method = method; laid = None; count = count; this = this; defining = defining; gives = None })
      (record { laid = tt; this = is; gives = tt; count = few }) context has
  keeps-found this defining (holders.Shown text) count few is there context has =
      keeps-unargued count (saying (holders.Text text) context) context
      (keeps-said (holders.Text text) (good.closed.shown text there) context has) has
  keeps-found this defining value count few is there context has =
      keeps-unargued count _ context (keeps-answers Good value 0 there context has) has

  keeps-found-or-asked : (this : Holder) (property count : ℕ) (kind : Kind) (found : Option (ℕ × Holder)) → count < 2 ^ 16 → Good this
      → IsGoodIfFound Good found → Keeps Good (found_or_asks program this property count kind found)
  keeps-found-or-asked this property count kind (Some found) few is there context has =
      keeps-found this found.0 found.1 count few is there context has
  keeps-found-or-asked this property count kind None few is there context has = keeps-asked property count this kind few is context has

  keeps-of-object : (property count number : ℕ) (object : Option Value) → count < 2 ^ 16 → Good (holders.Obj number)
      → Keeps Good (of_object program property count number object)
  keeps-of-object property count number None few is context has = keeps-faults Good faulty.Stale context has
  keeps-of-object property count number (Some value) few is context has =
      keeps-found-or-asked (holders.Obj number) property count (kind_of value) (property_of context.store number property) few is
      (good-property_of Good context.store number property has.store) context has

  pub keeps-evaluated : (property count : ℕ) → count < 2 ^ 16 → KeepsWith Good (evaluates program property count)
  keeps-evaluated property count few (holders.Obj number) is context has =
      keeps-of-object property count number (value_at context.store number) few is context has
  keeps-evaluated property count few (holders.Text address) is context has =
      keeps-asked property count (holders.Text address) kinds.Text few is context has
  keeps-evaluated property count few (holders.List address) is context has =
      keeps-asked property count (holders.List address) kinds.List few is context has
  keeps-evaluated property count few _ is context has = keeps-faults Good faulty.NotObject context has

  -- by a property that is good, whose number is one
  pub keeps-by-property : (act : ℕ → Context → Action) → ((property : ℕ) → (0 < property) × (property < 2 ^ 16) → Keeps Good (act property))
      → KeepsWith Good (by_property act)
  keeps-by-property act keeps (holders.Prop number) is context has = keeps number (good.closed.property number is) context has
  keeps-by-property act keeps _ is context has = keeps-faults Good faulty.Kind context has

  -- ---- inheriting

  keeps-found-or-nil : (count : ℕ) (found : Option (ℕ × Holder)) → count < 2 ^ 16 → IsGoodIfFound Good found
      → Keeps Good (found_or_nil count found)
  keeps-found-or-nil count (Some found) few there context has =
      keeps-found context.frame.this found.0 found.1 count few has.frame.this there context has
  keeps-found-or-nil count None few there context has = keeps-answers Good holders.Nil count good.closed.nil context has

  keeps-searched : (property count : ℕ) (object : Result ℕ Fault) → count < 2 ^ 16 → Keeps Good (searches_in property count object)
  keeps-searched property count (Ok number) few context has =
      keeps-found-or-nil count (property_of context.store number property) few
      (good-property_of Good context.store number property has.store) context has
  keeps-searched property count (Err fault) few context has = keeps-faults Good fault context has

  pub keeps-delegated : (property count : ℕ) (value : Holder) → count < 2 ^ 16 → Keeps Good (delegates property count value)
  keeps-delegated property count value few context has = keeps-searched property count (tads_object context.store value) few context has

  keeps-behind : (property count : ℕ) (object : Result ℕ Fault) → count < 2 ^ 16 → Keeps Good (searches_behind property count object)
  keeps-behind property count (Ok number) few context has =
      keeps-found-or-nil count (inherited_of context.store context.frame.defining number property) few
      (good-inherited_of Good context.store context.frame.defining number property has.store) context has
  keeps-behind property count (Err fault) few context has = keeps-faults Good fault context has

  pub keeps-inherited : (property count : ℕ) → count < 2 ^ 16 → Keeps Good (inherits property count)
  keeps-inherited property count few context has =
      keeps-behind property count (tads_object context.store context.frame.this) few context has
