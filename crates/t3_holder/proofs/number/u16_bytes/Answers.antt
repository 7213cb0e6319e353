use Rattle.std.proofs.Common.{◌∙◌}
use Rattle.t3_holder.proofs.Numbers.{written_two}
use Rattle.t3_holder.proofs.number.u16_bytes.Goals as goal

pub returns : goal.returns
returns c = c.to_le_bytes.ensures ∙ written_two c.args.number
