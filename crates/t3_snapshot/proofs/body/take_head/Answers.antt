use Rattle.std.proofs.Common.{arith}
use Rattle.t3_snapshot.proofs.Bodies.{head_read}
use Rattle.t3_snapshot.proofs.body.take_head.Goals as goal

pub returns : goal.returns
returns c = (omega arith, omega arith, head_read c.args.body.now _ _ _ c.u32_at.ensures c.u32_at-2.ensures c.split_at.ensures.back)
