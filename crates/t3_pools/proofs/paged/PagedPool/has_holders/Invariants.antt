use Rattle.t3_pools.proofs.Lists.{Passed}
use Rattle.t3_pools.proofs.paged.PagedPool.has_holders.Given as goal

abbrev pub invariant-loop : goal.invariant-loop
invariant-loop l = Passed l.self.bytes l.first l.address l.counter
