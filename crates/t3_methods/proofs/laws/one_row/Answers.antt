use Rattle.t3_methods.proofs.Table.{one_opcode, one_name, one_layout, one_row}
use Rattle.t3_methods.proofs.laws.one_row.Goals as goal

pub returns : goal.returns
returns c = record { opcode = one_opcode; name = one_name; kinds = one_layout; instr = one_row }
