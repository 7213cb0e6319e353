use Rattle.std.proofs.Common.{◌≡◌, map, take}
use Rattle.t3_load.specs.Statics.{statics_in}
use Rattle.t3_load.specs.Inner.Objects.{static_of}
use Rattle.t3_load.proofs.standing.statics.Given as goal

-- those of the blocks so far
abbrev pub invariant-loop-placed : goal.invariant-loop-placed
invariant-loop-placed l = map static_of l.statics.items ≡ statics_in (take l.placed-index l.blocks)
