use Rattle.std.proofs.Common.{◌∙◌, sym}
use Rattle.t3_store.specs.Store.{changed_cells}
use Rattle.t3_store.proofs.Marks.{changed_cells-marks}
use Rattle.t3_store.proofs.store.Store.records.Goals as goal

pub returns-clause-records : goal.returns-clause-records
returns-clause-records c =
    c.records.ensures.records ∙ sym (changed_cells-marks c.self.inside.journal.segments c.self.inside.persistent.objects)
    ∙ λ i. changed_cells (c.self.view_is i).store.marks
