use Rattle.std.proofs.Common.{◌≡◌, ℕ, Option, Some, None, Result, Ok, Err, IfOk, refl, sym, rules, ◌∙◌}
use Rattle.std.specs.Prelude.{option_map, option_and_then}
use Rattle.t3_holder.specs.declared.holder.Holder.{Holder}
use Rattle.t3_holder.specs.declared.holder.Holder.TheVariants.{Obj}
use Rattle.t3_holder.specs.declared.no_memory.NoMemory.{NoMemory}
use Rattle.t3_pools.specs.Pool.{Pool}
use Rattle.t3_store.specs.Value.{Value, Tads, Text, Items, Vector, Table, kind_of, length_of}
use Rattle.t3_store.specs.Store.{value_at}
use Rattle.t3_store.specs.declared.kind.Kind.TheVariants as kinds
use Rattle.t3_frame_instructions.specs.declared.context.Core.{Core}
use Rattle.t3_frame_instructions.specs.declared.effect.Quiet.{Quiet}
use Rattle.t3_frame_instructions.specs.Context.{Context}
use Rattle.t3_frame_instructions.specs.Acting.{context_of, HasDone}
use Rattle.t3_object_instructions.specs.Setting.{makes_list, sets_in_object}
use Rattle.t3_object_instructions.proofs.Evaluating.{as_well}
use Rattle.t3_object_instructions.proofs.Present.{no-element-at}
use Rattle.t3_object_instructions.proofs.item.set_in_object.Goals as goal
use Rattle.t3_object_instructions.proofs.item.set_in_object.Goals.{in_default-kind-via-in-Some+in_default, in_default-kind-via-in_default}

-- what is neither a vector nor a table is as a list
as_list : (constants : Pool) (index value : Holder) (number : ℕ) (o : Option Value) (context : Context)
    → option_and_then length_of o ≡ None → (option_map kind_of o ≡ Some kinds.Table → ⊥)
    → makes_list constants index (Obj number) value context ≡ sets_in_object constants index number value o context
as_list constants index value number None context short other = refl
as_list constants index value number (Some (Tads supers class props)) context short other = refl
as_list constants index value number (Some (Text bytes)) context short other = refl
as_list constants index value number (Some (Items items)) context short other = refl
as_list constants index value number (Some (Vector items)) context short other = absurd cc
as_list constants index value number (Some (Table pairs default)) context short other = absurd (other refl)

-- the same of what was done, unless memory is wanting
as_list_done : (constants : Pool) (index value : Holder) (number : ℕ) (old new : Core) (r : Result Quiet NoMemory)
    → option_and_then length_of (value_at old.store.store number) ≡ None
    → (option_map kind_of (value_at old.store.store number) ≡ Some kinds.Table → ⊥)
    → IfOk r (λ effect. HasDone (makes_list constants index (Obj number) value) old effect new)
    → IfOk r (λ effect. HasDone
    (λ context. sets_in_object constants index number value (value_at context.store number) context) old effect new)
as_list_done constants index value number old new (Ok effect) short other done =
    as_well _ _ _ _ _
    (as_list constants index value number (value_at old.store.store number) (context_of old) short other) done
as_list_done constants index value number old new (Err refusal) short other done = tt

pub returns-in_default-kind-clause-steady : goal.returns-in_default-kind-clause-steady
returns-in_default-kind-clause-steady c =
    λ there. absurd
    (no-element-at (value_at c.args.core.now.store.store c.args.number) _ (sym c.length.ensures ∙ c.in_default.is) there)

pub returns-in_default-kind-clause-done : goal.returns-in_default-kind-clause-done
returns-in_default-kind-clause-done c =
    as_list_done c.args.pools.now.constants c.args.at c.args.value c.args.number c.args.core.now c.make_list.new.core c.make_list.result
    (sym c.length.ensures ∙ c.in_default.is)
    (λ table. elim c.in_default-kind.branch [
      | in_default-kind-via-in-Some+in_default w ↦ search rules
      | in_default-kind-via-in_default w ↦ let none = w.in_default-kind.is in let is = c.kind.ensures.kind in cc
    ])
    c.make_list.ensures
