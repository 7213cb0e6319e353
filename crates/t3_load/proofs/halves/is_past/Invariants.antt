use Rattle.std.proofs.Common.{◌≡◌, ◌+◌, drop}
use Rattle.t3_load.specs.ImageObjects.{units_together}
use Rattle.t3_load.proofs.halves.is_past.Given as goal

-- those so far took what isn't left
abbrev pub invariant-loop-object : goal.invariant-loop-object
invariant-loop-object l = units_together l.objects + l.left ≡ l.fn.limits.units + units_together (drop l.object-index l.objects)
