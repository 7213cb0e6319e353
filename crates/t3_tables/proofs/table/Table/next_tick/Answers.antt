use Rattle.std.proofs.Common.{subst}
use Rattle.t3_undo.specs.Slots as slots
use Rattle.t3_tables.specs.Table.{TableValue, parts_of, AreBelow}
use Rattle.t3_tables.proofs.Defaults.{below-default}
use Rattle.t3_tables.proofs.table.Table.next_tick.Goals as goal

pub returns-clause-above : goal.returns-clause-above
returns-clause-above c =
    let P : TableValue → Type 0 = λ t. AreBelow c.self.inside.next_tick (parts_of t) in
    subst P c.self.view_is
    (below-default c.self.inside.next_tick (slots.parts_of c.self.inside.slots) c.self.inside.default c.self.invariant.below)
