use Rattle.std.proofs.Common.{arith}
use Rattle.t3_holder.proofs.Holders.{raw_text-read}
use Rattle.t3_holder.proofs.holder.read_raw.Goals as goal

pub returns : goal.returns
returns c = raw_text-read c.args.bytes.now c.u32_at.result (omega arith) c.u32_at.ensures
