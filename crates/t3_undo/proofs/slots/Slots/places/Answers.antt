use Rattle.std.proofs.Common.{◌∙◌, sym}
use Rattle.std.specs.FinMap.{len}
use Rattle.t3_undo.specs.Slots.{places_of}
use Rattle.t3_undo.proofs.SlotLists.{len-places_of}
use Rattle.t3_undo.proofs.slots.Slots.places.Goals as goal

pub returns-clause-places : goal.returns-clause-places
returns-clause-places c =
    c.len.ensures.len ∙ sym (len-places_of c.self.inside.cells.entries c.len.ensures.unique) ∙ λ i. len (places_of (c.self.view_is i))
