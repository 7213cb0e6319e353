use Rattle.t3_undo.proofs.AllStamps as stamps
use Rattle.t3_undo.proofs.law.stamp_law.Goals as goal

pub returns : goal.returns
returns c = stamps.stamp_law
