use Rattle.std.proofs.Common.{rules}
use Rattle.t3_drill.specs.Drill.{front}
use Rattle.t3_drill.proofs.front.front.Goals as goal

pub returns : goal.returns
unfolding front
returns c = search rules
