use Rattle.std.proofs.Common.{map, take}
use Rattle.t3_load.specs.Statics.{AreObjectsOf}
use Rattle.t3_load.specs.Inner.Objects.{static_of, entry_kind_at}
use Rattle.t3_load.proofs.objects.objects_of.Given as goal

-- of those so far each has its object
abbrev pub invariant-loop-placed : goal.invariant-loop-placed
invariant-loop-placed l = AreObjectsOf (entry_kind_at l.kinds) (map static_of (take l.placed-index l.statics)) l.objects.items
