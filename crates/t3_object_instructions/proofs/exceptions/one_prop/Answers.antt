use Rattle.std.proofs.Common.{◌++◌, ◌∷◌, [], sym, ap, ◌∙◌, subst, nat_eq}
use Rattle.std.specs.Prelude.{map}
use Rattle.std.specs.List.{IsDistinct}
use Rattle.t3_tadsobj.specs.declared.props.PropValue.{PropValue}
use Rattle.t3_object_instructions.proofs.exceptions.one_prop.Goals as goal

pub invariant_of-result : goal.invariant_of-result
unfolding IsDistinct
invariant_of-result c =
    let items = c.in_ok-push.ensures.items ∙ ap (λ props. props ++ c.args.prop ∷ []) c.new-props.ensures.items in
    subst (λ props. IsDistinct nat_eq (map (λ (p : PropValue). p.number) props)) (sym items) (tt, tt)
