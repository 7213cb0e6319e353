use Rattle.std.proofs.Common.{ap, sym, ◌∙◌}
use Rattle.t3_asm_line.proofs.Instructions.{row_found, row_missing}
use Rattle.t3_asm_line.proofs.keyword.instruction_row.Goals as goal

pub returns-in-Some-clause-name : goal.returns-in-Some-clause-name
returns-in-Some-clause-name c =
    c.as_bytes.ensures.value ∙ sym (ap (λ r. r.name) (row_found c.args.opcode c.in-Some.shape.name.now c.in-Some.shape.kinds.now c.in-Some.ensures))

pub returns-in-Some-clause-fields : goal.returns-in-Some-clause-fields
returns-in-Some-clause-fields c =
    sym (ap (λ r. r.fields) (row_found c.args.opcode c.in-Some.shape.name.now c.in-Some.shape.kinds.now c.in-Some.ensures))

pub returns-in-None-clause-name : goal.returns-in-None-clause-name
returns-in-None-clause-name c = c.begins.ensures.name ∙ sym (ap (λ r. r.name) (row_missing c.args.opcode c.in-None.ensures))

pub returns-in-None-clause-fields : goal.returns-in-None-clause-fields
returns-in-None-clause-fields c = c.begins.ensures.fields ∙ sym (ap (λ r. r.fields) (row_missing c.args.opcode c.in-None.ensures))
