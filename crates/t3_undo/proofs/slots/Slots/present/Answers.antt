use Rattle.std.proofs.Common.{◌∙◌, arith}
use Rattle.std.specs.FinMap.{len}
use Rattle.t3_undo.specs.Slots.{parts_of}
use Rattle.t3_undo.proofs.SlotLists.{len-parts_of}
use Rattle.t3_undo.proofs.slots.Slots.present.Goals as goal

pub returns-clause-present : goal.returns-clause-present
returns-clause-present c = c.self.invariant.counted ∙ λ i. len (parts_of (c.self.view_is i))

pub returns-clause-bound : goal.returns-clause-bound
returns-clause-bound c =
    let few = len-parts_of c.self.inside.cells.entries in
    omega (arith, few, c.self.invariant.counted, c.len-within.ensures.len, c.len-within.ensures.small)
