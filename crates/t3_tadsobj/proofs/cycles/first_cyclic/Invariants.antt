use Rattle.std.proofs.Common.{nat_eq, take}
use Rattle.indexmap.specs.IndexMap.{get}
use Rattle.t3_tadsobj.specs.Cycles.{HasNoCyclic}
use Rattle.t3_tadsobj.specs.Inner.ComponentWalk.{IsAtRest}
use Rattle.t3_tadsobj.proofs.cycles.first_cyclic.Given as goal

abbrev pub invariant-loop-number : goal.invariant-loop-number
invariant-loop-number g l = IsAtRest (g.S.Supers.supers_at l.view) (get nat_eq l.walk.marks) l.walk.path.items l.walk.components.items
    l.walk.tasks.items × HasNoCyclic (g.S.Supers.supers_at l.view) (take l.number-index l.numbers)
