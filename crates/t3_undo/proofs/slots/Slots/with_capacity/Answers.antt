use Rattle.t3_undo.proofs.SlotLists.{no_slots}
use Rattle.t3_undo.proofs.slots.Slots.with_capacity.Goals as goal

pub invariant_of-result : goal.invariant_of-result
invariant_of-result c =
    no_slots c.in_ok-with_capacity_and_hasher.field-0.entries c.in_ok-with_capacity_and_hasher.ensures.empty
