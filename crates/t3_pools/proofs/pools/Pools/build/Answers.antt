use Rattle.t3_pools.proofs.Decided.{only_kept, refuses_first}
use Rattle.t3_pools.proofs.pools.Pools.build.Goals as goal

pub returns-clause-only : goal.returns-clause-only
returns-clause-only c = λ kept. only_kept c.args.image.now.blocks _ c.by_rules.ensures kept

pub returns-clause-refuses : goal.returns-clause-refuses
returns-clause-refuses c = λ why first. refuses_first c.args.image.now.blocks why _ c.by_rules.ensures first
