use Rattle.std.proofs.Common.{◌≡◌, length, ap, sym, ◌∙◌}
use Rattle.t3_pools.specs.Constants.{bytes_in}
use Rattle.t3_pools.proofs.Standing.{number_in-none}
use Rattle.t3_pools.proofs.paged.PagedPool.count_at.Goals as goal

pub returns-else-fill-clause-reads : goal.returns-else-fill-clause-reads
returns-else-fill-clause-reads c =
    let pool = c.args.self.now.bytes in
    let long : length c.fill.new.window ≡ 2 = c.fill.auto.window in
    let gap = ap (λ n. bytes_in n pool c.args.address) (sym long) ∙ c.if-fill.ensures.fills in
    number_in-none pool 2 c.args.address gap
