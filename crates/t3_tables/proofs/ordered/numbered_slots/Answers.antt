use Rattle.std.proofs.Common.{◌∙◌, sym, ◌++◌, ◌+◌, length, map}
use Rattle.t3_tables.specs.Table.{pair_of, numbered}
use Rattle.t3_tables.proofs.NumberedSlots.{new-next, distinct-numbered}
use Rattle.t3_tables.proofs.ordered.numbered_slots.Goals as goal

pub add-requires-clause-new : goal.add-requires-clause-new
add-requires-clause-new c =
    new-next c.loop-key.slots (numbered 1 (map pair_of c.args.by_tick.entries)) _ _ _
    ((λ i. c.loop-key.slots ++ numbered (length c.loop-key.slots + 1) (map pair_of (sym c.in-Some.ensures.removal i)))
    ∙ c.loop-key.invariant)
    (distinct-numbered 1 (map pair_of c.args.by_tick.entries) c.requires)
