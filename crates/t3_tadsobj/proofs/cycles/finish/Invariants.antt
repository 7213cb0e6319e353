use Rattle.std.proofs.Common.{nat_eq}
use Rattle.indexmap.specs.IndexMap.{get}
use Rattle.t3_tadsobj.proofs.CycleLists.{IsFinishing}
use Rattle.t3_tadsobj.proofs.cycles.finish.Given as goal

abbrev pub invariant-loop-last : goal.invariant-loop-last
invariant-loop-last l = IsFinishing l.last l.initial.walk.path.items l.walk.path.items (get nat_eq l.initial.walk.marks)
    (get nat_eq l.walk.marks) l.initial.walk.components.items l.walk.components.items l.initial.walk.tasks.items l.walk.tasks.items

abbrev pub decreases-loop-last : goal.decreases-loop-last
decreases-loop-last l = goal.left-loop-last l
