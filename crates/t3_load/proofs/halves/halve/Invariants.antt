use Rattle.t3_load.specs.Inner.Halves.{AreHalves}
use Rattle.t3_load.proofs.halves.halve.Given as goal

-- those so far are in their halves
abbrev pub invariant-loop-object : goal.invariant-loop-object
invariant-loop-object l = AreHalves l.yielded l.halves.first l.halves.passing
