use Rattle.t3_frame_instructions.proofs.Cases.{HasPassed}
use Rattle.t3_frame_instructions.proofs.jumping.chosen.Given as goal

abbrev pub invariant-loop-nth : goal.invariant-loop-nth
invariant-loop-nth l = HasPassed l.pools l.store.store l.value l.at l.count l.nth l.turns
