use Rattle.t3_store.proofs.SetCells.{set_cell-sets}
use Rattle.t3_store.proofs.law.cell_law.Goals as goal

pub returns : goal.returns
returns c = set_cell-sets
