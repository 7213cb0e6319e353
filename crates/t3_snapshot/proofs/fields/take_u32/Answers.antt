use Rattle.std.proofs.Common.{arith, sym}
use Rattle.t3_snapshot.proofs.Leaves.{number_read}
use Rattle.t3_snapshot.proofs.fields.take_u32.Goals as goal

pub returns : goal.returns
returns c = number_read 4 c.u32_at.result c.args.bytes.now _ (omega arith) (omega arith) c.u32_at.ensures (sym c.split_at.ensures.back)
