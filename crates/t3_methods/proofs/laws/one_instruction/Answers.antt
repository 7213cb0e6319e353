use Rattle.t3_methods.proofs.MethodHeaders.{one_header}
use Rattle.t3_methods.proofs.Lookup.{same_instr}
use Rattle.t3_methods.proofs.laws.one_instruction.Goals as goal

pub returns : goal.returns
returns c = record { instr = same_instr; header = one_header }
