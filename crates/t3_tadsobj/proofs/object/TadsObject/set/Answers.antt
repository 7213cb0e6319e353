use Rattle.std.proofs.Common.{◌∙◌, ap, arith}
use Rattle.std.specs.FinMap.{insert}
use Rattle.t3_undo.specs.Content.{shown}
use Rattle.t3_undo.specs.Objects.{set_at}
use Rattle.t3_undo.specs.declared.cell.Cell.TheVariants as cells
use Rattle.t3_undo.proofs.Maps.{one_if}
use Rattle.t3_tadsobj.specs.Inner.Entries.{content_of, value_at}
use Rattle.t3_undo.specs.StampedValue.{ValuePlace}
use Rattle.t3_tadsobj.proofs.EntryLists.{parts-set, places-set, len-set, len-parts}
use Rattle.t3_tadsobj.proofs.object.TadsObject.set.Goals as goal

pub overflow_add-self : goal.overflow_add-self
overflow_add-self c =
    let few = len-parts c.self.inside.props.entries in
    omega (arith, few, c.self.invariant, c.len-within.ensures.len, c.len-within.ensures.small)

pub invariant_of-self-2 : goal.invariant_of-self-2
invariant_of-self-2 c =
    let old = c.self.inside.props.entries in
    let moved = len-set old c.insert.new.self.entries c.args.number c.new-place.result c.in_ok-old.ensures.updates.0 in
    let one = ap (λ (place : ValuePlace). one_if place.value) c.new-place.ensures in
    let was = c.one_if_present.ensures ∙ ap one_if (c.value_in.ensures ∙ ap value_at c.in_ok-old.ensures.old) in
    omega (arith, moved, one, was, c.self.invariant)

pub returns-clause-ok : goal.returns-clause-ok
returns-clause-ok c =
    let old = c.self.inside.props.entries in
    let new = c.insert.new.self.entries in
    let updates = c.in_ok-old.ensures.updates.0 in
    let parts = parts-set old new c.args.number c.new-place.result updates
    ∙ λ i. set_at (c.self.view_is i).parts (cells.Prop c.args.number) (shown (content_of (c.new-place.ensures i).value)) in
    let places = places-set old new c.args.number c.new-place.result updates
    ∙ λ i. insert (c.self.view_is i).places (cells.Prop c.args.number) (c.new-place.ensures i).stamp in
    λ i. record { parts = parts i; places = places i; supers = (c.self.view_is i).supers; class = (c.self.view_is i).class }
