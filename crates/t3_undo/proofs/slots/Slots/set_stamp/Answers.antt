use Rattle.std.proofs.Common.{◌≡◌, ◌∙◌, ap, sym, subst, Some}
use Rattle.std.specs.FinMap.{insert, len, contains_key}
use Rattle.std.specs.Map.{lookup}
use Rattle.t3_undo.specs.Slots.{parts_of, places_of, AreSlots}
use Rattle.t3_undo.specs.declared.place.Place.{Place}
use Rattle.t3_undo.proofs.SlotLists.{same, place-there, contains-places_of, parts_of-stamp, places_of-stamp, formed-set_value, formed-lookup}
use Rattle.t3_undo.proofs.slots.Slots.set_stamp.Goals as goal
use Rattle.t3_undo.proofs.slots.Slots.set_stamp.Goals.{After-restamp}

pub restamp-requires : goal.restamp-requires
restamp-requires c =
    sym (contains-places_of c.self.inside.cells.entries c.args.cell.now)
    ∙ (λ i. contains_key (places_of (c.self.view_is i)) c.args.cell.now) ∙ c.requires

there : (c : After-restamp) → (place : Place) × (lookup (same c.args.cell.now) c.self.inside.cells.entries ≡ Some place)
there c = place-there c.self.inside.cells.entries c.args.self.now c.args.cell.now c.self.view_is c.requires

pub invariant_of-self : goal.invariant_of-self
invariant_of-self c =
    let p = there c in
    let slots = c.self.inside.cells.entries in
    let new : Place = record p.0 { stamp = c.args.stamp } in
    let same_parts = parts_of-stamp slots c.args.cell.now p.0 p.1 c.args.stamp in
    subst (λ slots. AreSlots slots c.self.inside.present) (sym (c.restamp.ensures p.0 p.1)) (record {
      formed = formed-set_value slots c.args.cell.now new c.self.invariant.formed
          (formed-lookup slots c.args.cell.now c.self.invariant.formed p.0 p.1);
      counted = c.self.invariant.counted ∙ ap len (sym same_parts);
    })

pub returns-clause-parts : goal.returns-clause-parts
returns-clause-parts c =
    let p = there c in
    ap parts_of (c.restamp.ensures p.0 p.1)
    ∙ parts_of-stamp c.self.inside.cells.entries c.args.cell.now p.0 p.1 c.args.stamp
    ∙ λ i. parts_of (c.self.view_is i)

pub returns-clause-places : goal.returns-clause-places
returns-clause-places c =
    let p = there c in
    ap places_of (c.restamp.ensures p.0 p.1)
    ∙ places_of-stamp c.self.inside.cells.entries c.args.cell.now p.0 p.1 c.args.stamp
    ∙ λ i. insert (places_of (c.self.view_is i)) c.args.cell.now c.args.stamp
