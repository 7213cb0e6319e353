use Rattle.std.proofs.Common.{◌≡◌, length, ap, sym, ◌∙◌, rules}
use Rattle.t3_pools.specs.Constants.{bytes_in}
use Rattle.t3_pools.proofs.Lists.{reads-holder, holder-gap}
use Rattle.t3_pools.proofs.paged.PagedPool.holder.Goals as goal

pub returns-then-fill-clause-reads : goal.returns-then-fill-clause-reads
returns-then-fill-clause-reads c = search (rules, reads-holder)

pub returns-else-fill-clause-reads : goal.returns-else-fill-clause-reads
returns-else-fill-clause-reads c =
    let pool = c.args.self.now.bytes in
    let long : length c.fill.new.window ≡ 5 = c.fill.auto.window in
    let gap = ap (λ n. bytes_in n pool c.args.address) (sym long) ∙ c.if-fill.ensures.fills in
    holder-gap pool c.args.address gap
