use Rattle.std.proofs.Common.{◌∙◌, ap, sym, subst, List}
use Rattle.std.specs.FinMap.{get}
use Rattle.t3_undo.specs.Purging.{Stays}
use Rattle.t3_lists.specs.Vector.{parts_of, places_of, values_of}
use Rattle.t3_lists.specs.Inner.Elements.{AreCounted}
use Rattle.t3_undo.specs.StampedValue.{ValuePlace}
use Rattle.t3_lists.proofs.ElementPurges.{counted-left, parts-purged, places-left, places-kept}
use Rattle.t3_lists.proofs.vector.VectorMetaclass.purge.Goals as goal

pub invariant_of-self : goal.invariant_of-self
invariant_of-self c =
    subst (λ (es : List ValuePlace). AreCounted (values_of es) c.self.inside.present) (sym c.purge.ensures)
    (counted-left c.args.oldest c.self.inside.elements.items c.self.inside.present c.self.invariant)

pub returns-clause-parts : goal.returns-clause-parts
returns-clause-parts c =
    ap parts_of c.purge.ensures ∙ parts-purged c.args.oldest c.self.inside.elements.items ∙ ap parts_of c.self.view_is

pub returns-clause-fewer : goal.returns-clause-fewer
returns-clause-fewer c q t e =
    (λ i. get (places_of (sym c.self.view_is i)) q)
    ∙ (places-left c.args.oldest c.self.inside.elements.items q t ((λ i. get (places_of (sym c.purge.ensures i)) q) ∙ e)).0

pub returns-clause-kept : goal.returns-clause-kept
returns-clause-kept c q t e stays =
    (λ i. get (places_of (c.purge.ensures i)) q)
    ∙ places-kept c.args.oldest c.self.inside.elements.items q t ((λ i. get (places_of (c.self.view_is i)) q) ∙ e)
    (subst (λ (es : List ValuePlace). Stays (parts_of es) (places_of es) c.args.oldest q) (sym c.self.view_is) stays)

pub returns-clause-gone : goal.returns-clause-gone
returns-clause-gone c q t e =
    subst (λ (es : List ValuePlace). Stays (parts_of es) (places_of es) c.args.oldest q) c.self.view_is
    (places-left c.args.oldest c.self.inside.elements.items q t ((λ i. get (places_of (sym c.purge.ensures i)) q) ∙ e)).1
