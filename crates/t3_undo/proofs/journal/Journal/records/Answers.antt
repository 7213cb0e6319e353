use Rattle.std.proofs.Common.{◌∙◌, sym}
use Rattle.t3_undo.specs.Journal.{total}
use Rattle.t3_undo.proofs.RingLists.{total-segments}
use Rattle.t3_undo.proofs.journal.Journal.records.Goals as goal

pub returns-clause-records : goal.returns-clause-records
returns-clause-records c =
    c.len.ensures.len ∙ sym (total-segments c.self.inside.marks.items c.self.inside.records.items c.self.invariant.counted)
    ∙ λ i. total (c.self.view_is i).segments
