use Rattle.t3_methods.proofs.Lookup as lookup
use Rattle.t3_methods.proofs.laws.one_answer.Goals as goal

pub returns-clause-some_instr : goal.returns-clause-some_instr
returns-clause-some_instr c = lookup.some_instr

pub returns-clause-one_instr : goal.returns-clause-one_instr
returns-clause-one_instr c = lookup.one_instr

pub returns-clause-some_header : goal.returns-clause-some_header
returns-clause-some_header c = lookup.some_header

pub returns-clause-one_header : goal.returns-clause-one_header
returns-clause-one_header c = lookup.one_header
