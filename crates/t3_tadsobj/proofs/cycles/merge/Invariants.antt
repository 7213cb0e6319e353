use Rattle.std.proofs.Common.{length}
use Rattle.t3_tadsobj.proofs.CycleLists.{IsMerging}
use Rattle.t3_tadsobj.proofs.cycles.merge.Given as goal

abbrev pub invariant-loop-last : goal.invariant-loop-last
invariant-loop-last l = IsMerging l.place l.initial.components.items l.components.items

abbrev pub decreases-loop-last : goal.decreases-loop-last
decreases-loop-last l = length l.components.items
