use Rattle.std.proofs.Common.{arith}
use Rattle.t3_load.proofs.Reading.{number_again}
use Rattle.t3_load.proofs.rows.number_in.Goals as goal

pub returns : goal.returns
returns c = number_again 2 c.args.bytes.now c.u16_at.result (omega (arith, c.u16_at.type_inv)) c.requires c.u16_at.ensures
