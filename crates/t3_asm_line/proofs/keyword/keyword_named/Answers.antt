use Rattle.t3_asm_line.specs.Instructions.{opcode_named}
use Rattle.t3_asm_line.proofs.Forms.{listed_form, instruction_form}
use Rattle.t3_asm_line.proofs.keyword.keyword_named.Goals as goal

pub returns-in-Some-clause-count : goal.returns-in-Some-clause-count
returns-in-Some-clause-count c = listed_form c.args.word.now c.args.count c.in-Some.keyword c.in-Some.ensures

pub returns-in-None-clause-count : goal.returns-in-None-clause-count
returns-in-None-clause-count c = rw c.instruction.ensures (instruction_form c.args.word.now c.args.count (opcode_named c.args.word.now))
