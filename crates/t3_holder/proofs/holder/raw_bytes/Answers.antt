use Rattle.t3_holder.proofs.Holders.{raw_text-written}
use Rattle.t3_holder.proofs.holder.raw_bytes.Goals as goal

pub returns : goal.returns
returns c = raw_text-written c.args.raw c.u32_bytes.result c.u32_bytes.ensures
