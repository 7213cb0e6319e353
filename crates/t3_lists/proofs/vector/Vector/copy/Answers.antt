use Rattle.std.proofs.Common.{◌∙◌, ap, sym, subst, List, Option}
use Rattle.t3_holder.specs.declared.holder.Holder.{Holder}
use Rattle.t3_lists.specs.Vector.{parts_in, parts_of, places_of, values_of}
use Rattle.t3_lists.specs.Inner.Elements.{AreCounted, present_of}
use Rattle.t3_lists.proofs.Items.{counted-copy, parts-copy, places-copy, values-afresh}
use Rattle.t3_lists.proofs.vector.Vector.copy.Goals as goal

pub invariant_of-result : goal.invariant_of-result
invariant_of-result c =
    let P : List (Option Holder) → Type 0 = λ values. AreCounted values c.self.inside.present in
    subst P (sym (ap values_of (c.in_ok-elements.ensures ∙ ap present_of c.deref.ensures.value)
    ∙ values-afresh c.self.inside.elements.items))
    (counted-copy (values_of c.self.inside.elements.items) c.self.inside.present c.self.invariant)

pub returns-clause-parts : goal.returns-clause-parts
returns-clause-parts c =
    ap parts_of (c.in_ok-elements.ensures ∙ ap present_of (c.deref.ensures.value ∙ c.self.view_is))
    ∙ ap parts_in (values-afresh c.args.self.now)
    ∙ parts-copy (values_of c.args.self.now) c.requires.0 c.requires.1

pub returns-clause-places : goal.returns-clause-places
returns-clause-places c =
    ap places_of (c.in_ok-elements.ensures ∙ ap present_of (c.deref.ensures.value ∙ c.self.view_is))
    ∙ places-copy c.args.self.now c.requires.0 c.requires.1
