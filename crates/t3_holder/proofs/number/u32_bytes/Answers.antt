use Rattle.std.proofs.Common.{◌∙◌}
use Rattle.t3_holder.proofs.Numbers.{written_four}
use Rattle.t3_holder.proofs.number.u32_bytes.Goals as goal

pub returns : goal.returns
returns c = c.to_le_bytes.ensures ∙ written_four c.args.number
