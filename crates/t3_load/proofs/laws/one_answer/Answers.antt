use Rattle.t3_load.proofs.OneAnswer as one
use Rattle.t3_load.proofs.SomeAnswer as some
use Rattle.t3_load.proofs.laws.one_answer.Goals as goal

pub returns-clause-some : goal.returns-clause-some
returns-clause-some c = some.some_answer

pub returns-clause-one : goal.returns-clause-one
returns-clause-one c = one.one_answer
