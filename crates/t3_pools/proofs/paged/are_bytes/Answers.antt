use Rattle.std.proofs.Common.{arith}
use Rattle.t3_pools.proofs.Kept.{AreBytes-each}
use Rattle.t3_pools.proofs.paged.are_bytes.Goals as goal

pub returns : goal.returns
returns c = AreBytes-each c.args.bytes.now (λ i. omega (arith, c.type_inv.bytes i))
