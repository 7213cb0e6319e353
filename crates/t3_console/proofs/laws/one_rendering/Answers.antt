use Rattle.t3_console.proofs.Output.{pieces-rest, pieces-close}
use Rattle.t3_console.proofs.laws.one_rendering.Goals as goal

pub returns-clause-rest : goal.returns-clause-rest
returns-clause-rest c = pieces-rest

pub returns-clause-close : goal.returns-clause-close
returns-clause-close c = pieces-close
