use Rattle.std.proofs.Common.{arith}
use Rattle.t3_pools.proofs.Texts.{begun-more, begun-stops}
use Rattle.t3_pools.proofs.paged.PagedPool.is_text.Goals as goal

pub returns-then-found-eq0-clause-reads : goal.returns-then-found-eq0-clause-reads
returns-then-found-eq0-clause-reads c =
    begun-stops c.args.self.now.bytes c.args.first c.args.count c.loop-left.address c.loop-left.left c.loop-left.invariant
    (c.characters-found.ensures.begins.none c.if-found-eq0.true)

pub loop-left-preserved : goal.loop-left-preserved
loop-left-preserved c =
    let some = c.if-found-eq0.false in
    let begins = c.characters-found.ensures.begins in
    begun-more c.args.self.now.bytes c.args.first c.args.count c.loop-left.address c.loop-left.left c.characters-found.result c.loop-left.invariant
    begins.within begins.whole (c.characters-found.ensures.bounded (grind (arith, some)))
