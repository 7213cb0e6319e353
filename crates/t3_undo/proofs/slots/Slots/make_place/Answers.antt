use Rattle.std.proofs.Common.{◌∙◌, ap, sym, refl, ◌++◌, ◌∷◌, []}
use Rattle.std.specs.FinMap.{contains_key}
use Rattle.t3_undo.specs.Slots.{parts_of, places_of, unstamped}
use Rattle.t3_undo.specs.declared.content.Content.TheVariants.{Absent}
use Rattle.t3_undo.proofs.SlotLists.{unplaced, contains-places_of, with_place-there, places_of-made, parts_of-add-absent}
use Rattle.t3_undo.proofs.slots.Slots.make_place.Goals as goal

pub returns-then-contains_key-clause-ok : goal.returns-then-contains_key-clause-ok
returns-then-contains_key-clause-ok c =
    sym (with_place-there (places_of c.args.self.now) c.args.cell
    ((λ i. contains_key (places_of (sym c.self.view_is i)) c.args.cell)
    ∙ contains-places_of c.self.inside.cells.entries c.args.cell
    ∙ sym c.contains_key.ensures
    ∙ c.if-contains_key.true))

pub add-requires-clause-new : goal.add-requires-clause-new
add-requires-clause-new c = unplaced _ _ c.args.cell c.self.view_is _ c.contains_key.ensures c.if-contains_key.false

pub returns-clause-parts : goal.returns-clause-parts
returns-clause-parts c =
    ap parts_of (c.in_ok-add.ensures.ok ∙ λ i. c.args.self.now ++ (c.args.cell, c.unstamped.ensures i) ∷ [])
    ∙ parts_of-add-absent c.args.self.now c.args.cell
    (unplaced _ _ c.args.cell c.self.view_is _ c.contains_key.ensures c.if-contains_key.false)

pub returns-clause-ok : goal.returns-clause-ok
returns-clause-ok c =
    ap places_of (c.in_ok-add.ensures.ok ∙ λ i. c.args.self.now ++ (c.args.cell, c.unstamped.ensures i) ∷ [])
    ∙ places_of-made c.args.self.now c.args.cell (unstamped Absent)
    (unplaced _ _ c.args.cell c.self.view_is _ c.contains_key.ensures c.if-contains_key.false) refl
