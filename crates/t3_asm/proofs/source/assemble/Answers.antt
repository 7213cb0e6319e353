use Rattle.std.proofs.Common.{Ok, Err}
use Rattle.t3_asm.specs.Refusals.{refusal}
use Rattle.t3_asm.proofs.Sourcing.{gives_image, gives_line, gives_each}
use Rattle.t3_asm.proofs.source.assemble.Goals as goal

pub returns-clause-image : goal.returns-clause-image
returns-clause-image c = gives_image c.args.text.now c.assembled.result c.assembled.ensures.due

pub returns-clause-bad_line : goal.returns-clause-bad_line
returns-clause-bad_line c = gives_line c.args.text.now c.assembled.result c.assembled.ensures.due c.assembled.ensures.at_none

pub returns-clause-satisfied : goal.returns-clause-satisfied
returns-clause-satisfied c image says =
    gives_each c.args.text.now c.assembled.result (Ok image) c.assembled.ensures.due c.assembled.ensures.at_none says

pub returns-clause-refused : goal.returns-clause-refused
returns-clause-refused c line why says =
    gives_each c.args.text.now c.assembled.result (Err (refusal line why)) c.assembled.ensures.due c.assembled.ensures.at_none says
