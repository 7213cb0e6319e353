use Rattle.t3_asm_line.proofs.LineEnds.{length-lines_of}
use Rattle.t3_asm_line.proofs.lines.lines_few.Goals as goal

pub returns : goal.returns
returns c = length-lines_of
