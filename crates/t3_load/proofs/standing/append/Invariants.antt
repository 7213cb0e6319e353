use Rattle.std.proofs.Common.{◌≡◌, ◌++◌, map, take}
use Rattle.t3_load.specs.Statics.{static_in}
use Rattle.t3_load.specs.Inner.Objects.{static_of}
use Rattle.t3_load.proofs.standing.append.Given as goal

-- those so far came behind what was there
abbrev pub invariant-loop-object : goal.invariant-loop-object
invariant-loop-object l =
    map static_of l.statics.items ≡ map static_of l.fn.statics.items ++ map (static_in l.metaclass l.flags) (take l.object-index l.objects)
