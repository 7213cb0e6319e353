use Rattle.t3_interp.proofs.TakingBack.{taken-back}
use Rattle.t3_interp.proofs.laws.undo_takes_back.Goals as goal

pub returns : goal.returns
returns c = taken-back
