use Rattle.std.proofs.Common.{sym, arith}
use Rattle.t3_load.proofs.Reading.{number_again}
use Rattle.t3_load.proofs.rows.SuperItemItem.read.Goals as goal

pub returns : goal.returns
returns c = sym (number_again 4 c.args.bytes.now c.u32_at.result (omega (arith, c.u32_at.type_inv)) c.requires c.u32_at.ensures)
