use Rattle.std.proofs.Common.{rules}
use Rattle.t3_pools.proofs.Lists.{holder-read, holder-found}
use Rattle.t3_pools.proofs.pools.Pools.holder_at.Goals as goal

pub returns-clause-holder : goal.returns-clause-holder
returns-clause-holder c = search (rules, holder-found)

pub returns-clause-read : goal.returns-clause-read
returns-clause-read c = search (rules, holder-read)
