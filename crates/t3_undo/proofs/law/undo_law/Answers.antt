use Rattle.t3_undo.proofs.Undoing as law
use Rattle.t3_undo.proofs.law.undo_law.Goals as goal

pub returns : goal.returns
returns g c = law.undo_law _
