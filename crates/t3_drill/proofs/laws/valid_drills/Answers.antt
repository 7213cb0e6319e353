use Rattle.t3_drill.proofs.Valid.{valid_drill}
use Rattle.t3_drill.proofs.laws.valid_drills.Goals as goal

pub returns : goal.returns
returns c = valid_drill
