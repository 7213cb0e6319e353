use Rattle.t3_undo.proofs.SlotLists.{no_slots}
use Rattle.t3_undo.proofs.slots.Slots.new.Goals as goal

pub invariant_of-result : goal.invariant_of-result
invariant_of-result c = no_slots c.with_hasher.result.entries c.with_hasher.ensures.empty
