use Rattle.std.proofs.Common.{◌≡◌, ◌∙◌, ap, sym, subst, IsTrue, List, Some, None, true≢false}
use Rattle.std.specs.FinMap.{get}
use Rattle.std.specs.Map.{lookup}
use Rattle.t3_undo.specs.Content.{shown, is_form}
use Rattle.t3_undo.specs.Slots.{parts_of}
use Rattle.t3_undo.specs.declared.cell.Cell.{Cell}
use Rattle.t3_undo.specs.declared.content.Content.{Content}
use Rattle.t3_undo.specs.declared.place.Place.{Place}
use Rattle.t3_undo.proofs.SlotLists.{same, seen, get-parts_of, found-placed, missed-placed, formed-lookup}
use Rattle.t3_undo.proofs.slots.Slots.get.Goals as goal

pub returns-in-Some-clause-content : goal.returns-in-Some-clause-content
returns-in-Some-clause-content c =
    ap shown c.like.ensures ∙ ap seen c.in-Some.ensures.value ∙ sym (get-parts_of c.self.inside.cells.entries c.args.cell.now)
    ∙ λ i. get (parts_of (c.self.view_is i)) c.args.cell.now

pub returns-in-Some-clause-placed : goal.returns-in-Some-clause-placed
returns-in-Some-clause-placed c _ =
    let P : List (Cell × Place) → Type 0 = λ s. lookup (same c.args.cell.now) s ≡ Some c.in-Some.place.now in
    found-placed c.args.self.now c.args.cell.now c.in-Some.place.now (subst P c.self.view_is (sym c.in-Some.ensures.value))

pub returns-in-Some-clause-formed : goal.returns-in-Some-clause-formed
returns-in-Some-clause-formed c _ =
    let P : Content → Type 0 = λ x. IsTrue (is_form c.args.cell.now (shown x)) in
    subst P (sym c.like.ensures)
    (formed-lookup c.self.inside.cells.entries c.args.cell.now c.self.invariant.formed c.in-Some.place.now (sym c.in-Some.ensures.value))

pub returns-in-None-clause-content : goal.returns-in-None-clause-content
returns-in-None-clause-content c =
    ap seen c.in-None.ensures.value ∙ sym (get-parts_of c.self.inside.cells.entries c.args.cell.now)
    ∙ λ i. get (parts_of (c.self.view_is i)) c.args.cell.now

pub returns-in-None-clause-formed : goal.returns-in-None-clause-formed
returns-in-None-clause-formed c placed =
    let P : List (Cell × Place) → Type 0 = λ s. lookup (same c.args.cell.now) s ≡ None in
    absurd (true≢false (sym placed
    ∙ missed-placed c.args.self.now c.args.cell.now (subst P c.self.view_is (sym c.in-None.ensures.value))))
