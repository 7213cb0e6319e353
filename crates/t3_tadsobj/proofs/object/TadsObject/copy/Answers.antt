use Rattle.std.proofs.Common.{◌∙◌, ap, sym}
use Rattle.std.proofs.lemmas.Map.Keys.{IsDistinct-from_sorted}
use Rattle.std.specs.Ordering.{nat_cmp}
use Rattle.std.specs.FinMap.{len}
use Rattle.t3_undo.specs.Content.{places_for}
use Rattle.t3_tadsobj.specs.Inner.Entries.{parts_in, places_in}
use Rattle.t3_tadsobj.proofs.EntryLists.{parts-afresh, places-afresh}
use Rattle.t3_tadsobj.proofs.object.TadsObject.copy.Goals as goal

pub invariant_of-result : goal.invariant_of-result
invariant_of-result c =
    let apart = IsDistinct-from_sorted nat_cmp _ c.in_ok-props.ensures.ordered in
    c.self.invariant ∙ ap len (sym (ap parts_in c.in_ok-props.ensures.present ∙ parts-afresh c.self.inside.props.entries apart))

pub returns : goal.returns
returns c =
    let es = c.self.inside.props.entries in
    let apart = IsDistinct-from_sorted nat_cmp _ c.in_ok-props.ensures.ordered in
    let parts = ap parts_in c.in_ok-props.ensures.present ∙ parts-afresh es apart ∙ λ i. (c.self.view_is i).parts in
    let places = ap places_in c.in_ok-props.ensures.present ∙ places-afresh es apart ∙ λ i. places_for (c.self.view_is i).parts in
    let supers = c.in_ok-supers.ensures.items ∙ c.supers.ensures in
    λ i. record { parts = parts i; places = places i; supers = supers i; class = (c.self.view_is i).class }
