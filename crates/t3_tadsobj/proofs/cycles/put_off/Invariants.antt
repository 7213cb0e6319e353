use Rattle.std.proofs.Common.{◌≡◌, ◌++◌, take, map}
use Rattle.t3_tadsobj.specs.declared.cycles.Task.TheVariants.{Look}
use Rattle.t3_tadsobj.proofs.cycles.put_off.Given as goal

abbrev pub invariant-loop-above : goal.invariant-loop-above
invariant-loop-above l = l.tasks.items ≡ l.initial.tasks.items ++ map (Look l.place) (take l.above-index l.supers)
