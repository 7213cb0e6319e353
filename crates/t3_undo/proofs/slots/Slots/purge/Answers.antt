use Rattle.std.proofs.Common.{◌∙◌, ap, sym, subst, List}
use Rattle.std.specs.FinMap.{get, len}
use Rattle.t3_undo.specs.Slots.{parts_of, places_of, AreSlots}
use Rattle.t3_undo.specs.Purging.{IsNeeded}
use Rattle.t3_undo.specs.declared.cell.Cell.{Cell}
use Rattle.t3_undo.specs.declared.place.Place.{Place}
use Rattle.t3_undo.proofs.SlotPurges.{formed-filter, parts-purged, places-fewer, places-kept, places-needed}
use Rattle.t3_undo.proofs.slots.Slots.purge.Goals as goal
use Rattle.t3_undo.proofs.slots.Slots.purge.Goals.{After-purge}

abbrev before : (c : After-purge) → List (Cell × Place)
before c = c.self.inside.cells.entries

pub invariant_of-self : goal.invariant_of-self
invariant_of-self c = subst (λ slots. AreSlots slots c.self.inside.present) (sym c.purge.ensures.cells) (record {
  formed = formed-filter c.args.oldest (before c) c.self.invariant.formed;
  counted = c.self.invariant.counted ∙ ap len (sym (parts-purged c.args.oldest (before c) c.purge.ensures.distinct));
})

pub returns-clause-parts : goal.returns-clause-parts
returns-clause-parts c =
    ap parts_of c.purge.ensures.cells ∙ parts-purged c.args.oldest (before c) c.purge.ensures.distinct ∙ ap parts_of c.self.view_is

pub returns-clause-fewer : goal.returns-clause-fewer
returns-clause-fewer c q t e =
    (λ i. get (places_of (sym c.self.view_is i)) q)
    ∙ places-fewer c.args.oldest (before c) c.purge.ensures.distinct q t ((λ i. get (places_of (sym c.purge.ensures.cells i)) q) ∙ e)

pub returns-clause-kept : goal.returns-clause-kept
returns-clause-kept c q t e need =
    (λ i. get (places_of (c.purge.ensures.cells i)) q)
    ∙ places-kept c.args.oldest (before c) c.purge.ensures.distinct q t ((λ i. get (places_of (c.self.view_is i)) q) ∙ e)
    (subst (λ (slots : List (Cell × Place)). IsNeeded (parts_of slots) (places_of slots) c.args.oldest q) (sym c.self.view_is) need)

pub returns-clause-gone : goal.returns-clause-gone
returns-clause-gone c q t e =
    subst (λ (slots : List (Cell × Place)). IsNeeded (parts_of slots) (places_of slots) c.args.oldest q) c.self.view_is
    (places-needed c.args.oldest (before c) c.purge.ensures.distinct q t ((λ i. get (places_of (sym c.purge.ensures.cells i)) q) ∙ e))
