use Rattle.std.proofs.Common.{◌∙◌, map, sym, ap}
use Rattle.t3_tadsobj.specs.declared.props.PropValue.{PropValue}
use Rattle.t3_load.specs.Inner.Reading.{are_distinct}
use Rattle.t3_load.proofs.ReadObjects.{distinct_takes}
use Rattle.t3_load.proofs.statics.tads_object.Goals as goal

pub invariant_of-result : goal.invariant_of-result
invariant_of-result c =
    let distinct = sym c.in_ok-are_distinct.ensures ∙ c.if-not-branch.false in
    distinct_takes _ (ap (λ props. are_distinct (map (λ (prop : PropValue). prop.number) props)) (sym c.deref.ensures.value) ∙ distinct)
