use Rattle.t3_pools.proofs.Lists.{passed-more, passed-gap}
use Rattle.t3_pools.proofs.paged.PagedPool.has_holders.Goals as goal

pub returns-then-is_none-clause-reads : goal.returns-then-is_none-clause-reads
returns-then-is_none-clause-reads c =
    passed-gap c.args.self.now.bytes c.args.first c.loop.address c.loop.counter c.args.count c.holder.result c.loop.invariant c.loop-test.true
    c.holder.ensures.reads c.if-is_none.ensures

pub loop-preserved : goal.loop-preserved
loop-preserved c =
    passed-more c.args.self.now.bytes c.args.first c.loop.address c.loop.counter c.holder.result c.loop.invariant
    c.holder.ensures.reads c.if-is_none.ensures c.holder.ensures.bounded
