use Rattle.std.proofs.Common.{pos, ◌++◌, ◌∷◌, [], ◌∙◌, refl, sym, ap, subst, nat_eq}
use Rattle.std.specs.Prelude.{map}
use Rattle.std.specs.List.{IsDistinct}
use Rattle.t3_holder.specs.declared.holder.Holder.TheVariants as holders
use Rattle.t3_tadsobj.specs.declared.props.PropValue.{PropValue}
use Rattle.t3_store_tests.proofs.persistents.two_props.Goals as goal

abbrev nine : PropValue
nine = record { number = 9; value = holders.Int (pos 90) }

abbrev three : PropValue
three = record { number = 3; value = holders.Int (pos 30) }

pub invariant_of-result : goal.invariant_of-result
unfolding IsDistinct
invariant_of-result c =
    let first = c.in_ok-push.ensures.items ∙ ap (λ props. props ++ nine ∷ []) c.new-props.ensures.items in
    let items = c.in_ok-push-2.ensures.items ∙ ap (λ props. props ++ three ∷ []) first in
    subst (λ props. IsDistinct nat_eq (map (λ (p : PropValue). p.number) props)) (sym items) ((refl, tt), (tt, tt))
