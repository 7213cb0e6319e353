-- The best of several values, one after the other.
use Rattle.std.proofs.Common.{◌≡◌, ℕ, ◌+◌, Bool, cond, drop, List, [], ◌∷◌, Ok, Err, refl, sym, ap, ◌∙◌}
use Rattle.std.specs.declared.cmp.Ordering.{Ordering}
use Rattle.t3_holder.specs.declared.holder.Holder.{Holder}
use Rattle.t3_pools.specs.Pool.{Pool}
use Rattle.t3_store.specs.Store.{StoreValue}
use Rattle.t3_ops.specs.declared.fault.Fault.{Fault}
use Rattle.t3_ops.specs.Making.{AsIs}
use Rattle.t3_ops.specs.Order.{order_of}
use Rattle.t3_ops.specs.Builtins.{best_of, best_after, is_better}

-- a value was compared
pub best-more : (greatest : Bool) (constants : Pool) (store : StoreValue) (values : List Holder) (index : ℕ) (best value next : Holder)
    (order : Ordering) → drop index values ≡ value ∷ drop (index + 1) values → Ok order ≡ order_of constants store best value
    → next ≡ cond (is_better greatest order) value best
    → best_of greatest constants store (drop (index + 1) values) next ≡ best_of greatest constants store (drop index values) best
unfolding best_of
best-more greatest constants store values index best value next order here told is =
    sym (ap (λ (l : List Holder). best_of greatest constants store l best) here
    ∙ ap (λ o. best_after greatest best value o (λ next. best_of greatest constants store (drop (index + 1) values) next)) (sym told)
    ∙ ap (λ h. best_of greatest constants store (drop (index + 1) values) h) (sym is))

-- it couldn't be
pub best-fault : (greatest : Bool) (constants : Pool) (store : StoreValue) (values : List Holder) (index : ℕ) (best value : Holder)
    (fault : Fault) → drop index values ≡ value ∷ drop (index + 1) values → Err fault ≡ order_of constants store best value
    → Err fault ≡ best_of greatest constants store (drop index values) best
unfolding best_of
best-fault greatest constants store values index best value fault here told =
    sym (ap (λ (l : List Holder). best_of greatest constants store l best) here
    ∙ ap (λ o. best_after greatest best value o (λ next. best_of greatest constants store (drop (index + 1) values) next)) (sym told))

-- none is left
pub best-end : (greatest : Bool) (constants : Pool) (store : StoreValue) (best : Holder)
    → Ok (AsIs best) ≡ best_of greatest constants store [] best
unfolding best_of
best-end greatest constants store best = refl
