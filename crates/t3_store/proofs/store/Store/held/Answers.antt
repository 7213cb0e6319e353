use Rattle.std.proofs.Common.{◌∙◌, sym, length}
use Rattle.t3_store.proofs.Marks.{length-marks}
use Rattle.t3_store.proofs.store.Store.held.Goals as goal

pub returns-clause-held : goal.returns-clause-held
returns-clause-held c =
    c.held.ensures.held ∙ sym (length-marks c.self.inside.journal.segments c.self.inside.persistent.objects)
    ∙ λ i. length (c.self.view_is i).store.marks
