use Rattle.t3_cli.proofs.Results as results
use Rattle.t3_cli.proofs.top.one_outcome.Goals as goal

pub returns-clause-some : goal.returns-clause-some
returns-clause-some c = results.some_outcome

pub returns-clause-one : goal.returns-clause-one
returns-clause-one c = results.one_outcome
