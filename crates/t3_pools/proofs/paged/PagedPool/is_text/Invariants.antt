use Rattle.t3_pools.proofs.Texts.{Begun}
use Rattle.t3_pools.proofs.paged.PagedPool.is_text.Given as goal

abbrev pub invariant-loop-left : goal.invariant-loop-left
invariant-loop-left l = Begun l.self.bytes l.first l.count l.address l.left

abbrev pub decreases-loop-left : goal.decreases-loop-left
decreases-loop-left l = l.left
