use Rattle.std.proofs.Common.{◌≡◌, ◌+◌, Some, None, inr, sym, ◌∙◌, arith}
use Rattle.t3_pools.proofs.Rules.{no_pool}
use Rattle.t3_pools.proofs.pools.Pools.run.Goals as goal

pub returns-else-pool-eq2-clause-empty : goal.returns-else-pool-eq2-clause-empty
returns-else-pool-eq2-clause-empty c = λ none. no_pool c.args.self.now c.args.pool c.args.address c.if-pool-eq1.false c.if-pool-eq2.false

pub returns-else-pool-eq2-clause-whole : goal.returns-else-pool-eq2-clause-whole
returns-else-pool-eq2-clause-whole c =
    let none = no_pool c.args.self.now c.args.pool (c.args.address + 0) c.if-pool-eq1.false c.if-pool-eq2.false in
    record { within = λ some. absurd (omega arith); ends = inr none }

pub returns-else-pool-eq2-clause-beyond : goal.returns-else-pool-eq2-clause-beyond
returns-else-pool-eq2-clause-beyond c far le = no_pool c.args.self.now c.args.pool far c.if-pool-eq1.false c.if-pool-eq2.false

pub returns-else-pool-eq2-clause-bytes : goal.returns-else-pool-eq2-clause-bytes
returns-else-pool-eq2-clause-bytes c address byte there =
    let none : None ≡ Some byte = sym (no_pool c.args.self.now c.args.pool address c.if-pool-eq1.false c.if-pool-eq2.false) ∙ there in
    absurd cc
