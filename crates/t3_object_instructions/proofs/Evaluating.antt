-- A property that is looked for before the object's kind is asked.
use Rattle.std.proofs.Common.{◌≡◌, ◌∙◌, ℕ, zero, suc, [], Option, Some, None, Result, Ok, Err, IfOk, refl, sym, ap, subst}
use Rattle.std.specs.Prelude.{option_and_then}
use Rattle.t3_holder.specs.declared.holder.Holder.{Holder}
use Rattle.t3_holder.specs.declared.holder.Holder.TheVariants.{Obj}
use Rattle.t3_tadsobj.specs.Order.{SupersAt, list_from, preorder, last_places}
use Rattle.t3_store.specs.Value.{Value, supers_of, kind_of}
use Rattle.t3_store.specs.Store.{StoreValue, value_at, objects_in}
use Rattle.t3_store.specs.Whole.{supers_of_live}
use Rattle.t3_load.specs.Loading.{ProgramValue}
use Rattle.t3_frame_instructions.specs.Effect.{Effect}
use Rattle.t3_frame_instructions.specs.declared.context.Core.{Core}
use Rattle.t3_frame_instructions.specs.Context.{Context, Action}
use Rattle.t3_kinds.specs.Search.{property_of, searched, order_of}
use Rattle.t3_object_instructions.specs.Evaluating.{of_object, found_action, found_or_asks, asks_object}
use Rattle.t3_holder.specs.declared.no_memory.NoMemory.{NoMemory}
use Rattle.t3_frame_instructions.specs.declared.effect.Quiet.{Quiet}
use Rattle.t3_frame_instructions.specs.Acting.{HasAction, HasDone, Leaves, context_of, quiet_of}

-- what does the same does it here
pub as_well : (a b : Context → Action) (old : Core) (effect : Effect) (new : Core) → a (context_of old) ≡ b (context_of old)
    → HasAction a old effect new → HasAction b old effect new
as_well a b old effect new same has = record {
  asks = sym (ap (λ x. x.0) same) ∙ has.asks;
  leaves = subst (λ (x : Action). Leaves effect x.1 (context_of new)) same has.leaves;
  older = has.older;
  writes = has.writes;
  savepoints = has.savepoints;
}

-- the same, where memory may have been wanting
pub as_well_ok : (a b : Context → Action) (old new : Core) (r : Result Quiet NoMemory) → a (context_of old) ≡ b (context_of old)
    → IfOk r (λ effect. HasDone a old effect new) → IfOk r (λ effect. HasDone b old effect new)
as_well_ok a b old new (Ok effect) same has = as_well a b old (quiet_of effect new.call) new same has
as_well_ok a b old new (Err refusal) same has = tt

-- where nothing stands no property is found
preorder_of_none : (at : SupersAt) (depth n : ℕ) → at n ≡ None → preorder at depth n ≡ []
unfolding preorder
preorder_of_none at zero n none = refl
preorder_of_none at (suc depth) n none = ap (list_from (preorder at depth) n) none

found_of_none : (s : StoreValue) (n p : ℕ) → value_at s n ≡ None → property_of s n p ≡ None
unfolding order_of
found_of_none s n p none =
    ap (λ list. searched s p (last_places list))
    (preorder_of_none (supers_of_live s) (objects_in s) n (ap (option_and_then supers_of) none))

-- where it is found something stands, and its value is taken
pub evaluates_found : (program : ProgramValue) (p count n : ℕ) (context : Context) (found : ℕ × Holder)
    → property_of context.store n p ≡ Some found
    → found_action (Obj n) found.0 found.1 count context ≡ of_object program p count n (value_at context.store n) context
evaluates_found program p count n context found is = by (value_at context.store n) refl
  where
    by : (o : Option Value) → value_at context.store n ≡ o
        → found_action (Obj n) found.0 found.1 count context ≡ of_object program p count n o context
    by None e = let none : ◌≡◌ {A = Option (ℕ × Holder)} (Some found) None = sym is ∙ found_of_none context.store n p e in cc
    by (Some value) e = ap (λ o. found_or_asks program (Obj n) p count (kind_of value) o context) (sym is)

-- where it isn't the kind's methods are asked
pub evaluates_asked : (program : ProgramValue) (p count n : ℕ) (context : Context) → property_of context.store n p ≡ None
    → asks_object program p count n (value_at context.store n) context ≡ of_object program p count n (value_at context.store n) context
evaluates_asked program p count n context is = by (value_at context.store n)
  where
    by : (o : Option Value) → asks_object program p count n o context ≡ of_object program p count n o context
    by None = refl
    by (Some value) = ap (λ o. found_or_asks program (Obj n) p count (kind_of value) o context) (sym is)
