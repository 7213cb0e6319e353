use Rattle.std.proofs.Common.{◌≡◌, ℕ, Bool, true, true≢false, Result, sym, ap, subst, ◌∙◌}
use Rattle.t3_store.specs.Store.{StoreValue, value_at}
use Rattle.t3_ops.specs.declared.fault.Fault.{Fault}
use Rattle.t3_object_instructions.specs.Steady.{has_element_at}
use Rattle.t3_object_instructions.proofs.Present.{element-set}
use Rattle.t3_object_instructions.proofs.item.set_in_vector.Goals as goal

pub returns-else-branch-clause-steady : goal.returns-else-branch-clause-steady
returns-else-branch-clause-steady c there =
    let s = c.args.core.now.store.store in
    let is = subst (λ (r : Result ℕ Fault). has_element_at (value_at s c.args.number) r ≡ true) (sym c.in-Ok.ensures.index) there in
    let set = element-set s c.args.number c.args.length c.in-Ok.index c.args.value c.requires.vector is in
    absurd (true≢false (sym set ∙ ap (λ (r : Bool × StoreValue). r.0) c.in_ok-set_element-in-Ok.ensures.made ∙ c.if-branch.false))
