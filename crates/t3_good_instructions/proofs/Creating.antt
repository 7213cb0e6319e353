-- Creating an object leaves all good.
use Rattle.std.proofs.Common.{◌≡◌, refl, ℕ, zero, suc, ◌-◌, ◌<◌, ◌^◌, ◌&&◌, Bool, true, false, not, if◌then◌else◌, List, [], ◌∷◌, length, drop, Option, Some, None, Result, Ok, Err, is_some, option_map, arith}
use Rattle.std.specs.Prelude.{codes}
use Rattle.std.specs.FinMap.{get, empty, get-empty}
use Rattle.std.specs.Ordering.{nat_cmp}
use Rattle.std.specs.List.{AllByRecursion}
use Rattle.t3_holder.specs.declared.holder.Holder.{Holder}
use Rattle.t3_holder.specs.declared.holder.Holder.TheVariants as holders
use Rattle.t3_store.specs.Value.{Value, Tads}
use Rattle.t3_store.specs.Store.{StoreValue, value_at, created_in}
use Rattle.t3_load.specs.Loading.{ProgramValue}
use Rattle.t3_load.specs.declared.kinds.MetaKind.{MetaKind}
use Rattle.t3_load.specs.declared.kinds.MetaKind.TheVariants as metas
use Rattle.t3_ops.specs.declared.fault.Fault.{Fault}
use Rattle.t3_ops.specs.declared.fault.Fault.TheVariants as faulty
use Rattle.t3_ops.specs.Creating.{new_string_of, new_list_of, new_vector_of, new_table_of}
use Rattle.t3_frame_instructions.specs.Context.{Context, leaving, with_store, answers}
use Rattle.t3_snapshot.specs.State.{named_as_keys}
use Rattle.t3_snapshot.specs.Good.{AreGoodSupers}
use Rattle.t3_object_instructions.specs.Search.{is_tads}
use Rattle.t3_object_instructions.specs.Creating.{arguments, creates, super_of, supers_by, supers_from, constructor_of, constructs, constructs_made, tads_creation, creation_of}
use Rattle.t3_object_instructions.specs.Symbols.{property_named}
use Rattle.t3_good_values.specs.Values.{IsGoodNew, IsGoodResult}
use Rattle.t3_good_values.proofs.Creating.{new_string_of-good, new_list_of-good, new_vector_of-good, new_table_of-good}
use Rattle.t3_good_instructions.specs.Contexts.{IsGoodProgram, IsGoodContext, IsGoodAction}
use Rattle.t3_good_instructions.proofs.Holders.{good-take}
use Rattle.t3_good_instructions.proofs.Actions.{Keeps, stored, registered, dropped, keeps-faults, keeps-fills, keeps-calls, keeps-answers}
use Rattle.t3_good_instructions.proofs.Making.{IsGoodCreated, good-creation, good-reference, keeps-taken}

-- either of two results
good-either : {A : Type 0} (P : A → Type 0) (b : Bool) (first second : Result A Fault) → IsGoodResult P first → IsGoodResult P second
    → IsGoodResult P (if b then first else second)
good-either P true first second good also = good
good-either P false first second good also = also

pub good-arguments : (Good : Holder → Type 0) (count : ℕ) (context : Context) → IsGoodContext Good context
    → AllByRecursion Good (arguments count context)
good-arguments Good count context has = good-take Good count context.frame.operands has.frame.operands

-- ---- superclasses

module _ (Good : Holder → Type 0) (store : StoreValue) (transient : Bool) where
  good-super : (number : ℕ) (value : Option Value) → Good (holders.Obj number)
      → IsGoodResult (AreGoodSupers Good) (super_of store transient number value)
  good-super number None good = tt
  good-super number (Some value) good =
      good-either (AreGoodSupers Good) (not (is_tads value)) (Err faulty.Kind) _ tt
      (good-either (AreGoodSupers Good) (not transient && is_some (get store.transient number)) (Err faulty.TransientSuper)
      (Ok (number ∷ [])) tt (record { few = omega arith; each = (good, tt) }))

  none-good : AreGoodSupers Good []
  none-good = record { few = omega arith; each = tt }

  pub good-supers_by : (value : Holder) → Good value → IsGoodResult (AreGoodSupers Good) (supers_by store transient value)
  good-supers_by holders.Nil good = none-good
  good-supers_by (holders.Obj number) good = good-super number (value_at store number) good
  good-supers_by _ good = tt

  pub good-supers_from : (count : ℕ) (operands : List Holder) → AllByRecursion Good operands
      → IsGoodResult (AreGoodSupers Good) (supers_from store transient count operands)
  good-supers_from zero operands good = none-good
  good-supers_from (suc count) [] good = none-good
  good-supers_from (suc count) (value ∷ rest) good = good-supers_by value good.0

no-props : (number : ℕ) (value : Holder) → get (empty {X = Holder} {R = nat_cmp}) number ≡ Some value → ⊥
no-props number value there = cc (get-empty {X = Holder} nat_cmp number)

new-tads : (Good : Holder → Type 0) (supers : List ℕ) → AreGoodSupers Good supers → IsGoodNew Good (Tads supers false empty)
unfolding named_as_keys
new-tads Good supers good = record { parts = (good, λ number value there. absurd (no-props number value there)); keyless = refl }

-- ---- objects that are made

module _ (Good : Holder → Type 0) (program : ProgramValue) (good : IsGoodProgram Good program) where
  keeps-constructed : (constructor : Option (ℕ × ℕ)) (said count number : ℕ) → count < 2 ^ 16 → Good (holders.Obj number)
      → Keeps Good (constructs constructor said count number)
  keeps-constructed None said count number few made context has = keeps-answers Good (holders.Obj number) count made context has
  keeps-constructed (Some constructor) said count number few made context has =
      keeps-calls Good _ (record { laid = tt; this = made; gives = made; count = omega arith }) _
      (dropped Good said (record context { register = holders.Obj number }) (registered Good (holders.Obj number) context made has))

  pub keeps-tads : (transient : Bool) (said count : ℕ) (supers : Result (List ℕ) Fault) → count < 2 ^ 16
      → IsGoodResult (AreGoodSupers Good) supers → Keeps Good (tads_creation program transient said count supers)
  keeps-tads transient said count (Err fault) few are context has = keeps-faults Good fault context has
  keeps-tads transient said count (Ok supers) few are context has =
      by (constructor_of context.store (property_named program.symbols (codes "Constructor")) supers)
      (created_in (Tads supers false empty) transient context.store)
      (good-creation Good good.closed (Tads supers false empty) transient context.store (new-tads Good supers are) has.store)
    where
      by : (constructor : Option (ℕ × ℕ)) (made : Option (ℕ × StoreValue)) → IsGoodCreated Good good.closed made
          → IsGoodAction Good (constructs_made constructor said count made context)
      by constructor None there = keeps-fills Good context has
      by constructor (Some made) there =
          keeps-constructed constructor said count made.0 few there.1 (with_store made.1 context) (stored Good made.1 context there.0 has)

  keeps-created : (transient : Bool) (count : ℕ) (value : Result Value Fault) (context : Context) → IsGoodResult (IsGoodNew Good) value
      → IsGoodContext Good context → IsGoodAction Good (creates transient count value context)
  keeps-created transient count (Err fault) context new has = keeps-faults Good fault context has
  keeps-created transient count (Ok value) context new has =
      keeps-taken Good good.closed (option_map (λ made. (holders.Obj made.0, made.1)) (created_in value transient context.store))
      (λ object context. answers object count context) (λ object good. keeps-answers Good object count good) context
      (good-reference Good good.closed (created_in value transient context.store)
      (good-creation Good good.closed value transient context.store new has.store)) has

  pub keeps-creation : (transient : Bool) (count : ℕ) (kind : Option MetaKind) → count < 2 ^ 16
      → Keeps Good (creation_of program transient count kind)
  keeps-creation transient count None few context has = keeps-faults Good faulty.CannotMake context has
  keeps-creation transient count (Some metas.Root) few context has = keeps-faults Good faulty.CannotMake context has
  keeps-creation transient count (Some metas.Collection) few context has = keeps-faults Good faulty.CannotMake context has
  keeps-creation transient count (Some metas.Tads) few context has =
      keeps-tads transient 1 count (supers_from context.store transient count context.frame.operands) few
      (good-supers_from Good context.store transient count context.frame.operands has.frame.operands) context has
  keeps-creation transient count (Some metas.Text) few context has =
      keeps-created transient count (new_string_of program.pools.constants context.store (arguments count context)) context
      (new_string_of-good Good program.pools.constants context.store (arguments count context) has.store) has
  keeps-creation transient count (Some metas.List) few context has =
      keeps-created transient count (new_list_of (arguments count context)) context
      (new_list_of-good Good (arguments count context) (good-arguments Good count context has)) has
  keeps-creation transient count (Some metas.Vector) few context has =
      keeps-created transient count (new_vector_of program.pools.constants context.store (arguments count context)) context
      (new_vector_of-good Good program.pools.constants context.store (arguments count context) good.closed good.constants has.store
      (good-arguments Good count context has)) has
  keeps-creation transient count (Some metas.Table) few context has =
      keeps-created transient count (new_table_of (arguments count context)) context
      (new_table_of-good Good (arguments count context) good.closed) has
