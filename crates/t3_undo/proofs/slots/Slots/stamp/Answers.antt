use Rattle.std.proofs.Common.{◌∙◌, ap, sym, true≢false}
use Rattle.std.specs.FinMap.{get, contains_key}
use Rattle.t3_undo.specs.Slots.{places_of}
use Rattle.t3_undo.proofs.SlotLists.{stamped, get-places_of, missed-placed}
use Rattle.t3_undo.proofs.slots.Slots.stamp.Goals as goal

pub returns-in-Some : goal.returns-in-Some
returns-in-Some c =
    (λ i. get (places_of (sym c.self.view_is i)) c.args.cell.now) ∙ get-places_of c.self.inside.cells.entries c.args.cell.now
    ∙ sym (ap stamped c.in-Some.ensures.value)

pub returns-in-None : goal.returns-in-None
returns-in-None c =
    absurd (true≢false (sym c.requires ∙ (λ i. contains_key (places_of (sym c.self.view_is i)) c.args.cell.now)
    ∙ missed-placed c.self.inside.cells.entries c.args.cell.now (sym c.in-None.ensures.value)))
