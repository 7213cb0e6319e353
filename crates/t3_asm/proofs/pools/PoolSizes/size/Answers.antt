use Rattle.std.proofs.Common.{ap, ◌∙◌}
use Rattle.std.specs.Cmp.{nat_cmp_total}
use Rattle.std.specs.FinMap as map
use Rattle.t3_asm.proofs.Kept.{get-kept}
use Rattle.t3_asm.proofs.pools.PoolSizes.size.Goals as goal

pub returns-in-Some : goal.returns-in-Some
returns-in-Some c =
    get-kept nat_cmp_total (λ n. n) c.args.pool _ _ c.in-Some.ensures.value ∙ ap (λ m. map.get m c.args.pool) c.self.view_is

pub returns-in-None : goal.returns-in-None
returns-in-None c =
    get-kept nat_cmp_total (λ n. n) c.args.pool _ _ c.in-None.ensures.value ∙ ap (λ m. map.get m c.args.pool) c.self.view_is
