use Rattle.t3_lines.proofs.Inputs.{earlier_input, still_reading, asked_for, input_read}
use Rattle.t3_lines.proofs.reader.one_input.Goals as goal

pub returns-clause-earlier : goal.returns-clause-earlier
returns-clause-earlier c = earlier_input

pub returns-clause-reading : goal.returns-clause-reading
returns-clause-reading c = still_reading

pub returns-clause-told : goal.returns-clause-told
returns-clause-told c = input_read

pub returns-clause-asked : goal.returns-clause-asked
returns-clause-asked c = asked_for
