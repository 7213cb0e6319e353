use Rattle.std.proofs.Common.{◌+◌, length, nat_eq}
use Rattle.std.specs.Prelude.{IsSome}
use Rattle.indexmap.specs.IndexMap.{get}
use Rattle.t3_tadsobj.specs.Inner.ComponentWalk.{IsWalking}
use Rattle.t3_tadsobj.proofs.CycleRests.{left}
use Rattle.t3_tadsobj.proofs.cycles.visit.Given as goal

abbrev pub invariant-loop-task : goal.invariant-loop-task
invariant-loop-task g l = IsWalking (g.S.Supers.supers_at l.view) (get nat_eq l.walk.marks) l.walk.path.items l.walk.components.items
    l.walk.tasks.items × IsSome (get nat_eq l.walk.marks l.fn.number)

abbrev pub decreases-loop-task : goal.decreases-loop-task
decreases-loop-task g l = length l.walk.tasks.items
    + left (g.S.Supers.supers_at l.view) (get nat_eq l.walk.marks) (g.S.Supers.numbers l.view)
