use Rattle.std.proofs.Common.{◌∙◌, sym, length}
use Rattle.t3_undo.proofs.RingLists.{length-segments}
use Rattle.t3_undo.proofs.journal.Journal.held.Goals as goal

pub returns-clause-held : goal.returns-clause-held
returns-clause-held c =
    c.len.ensures.len ∙ sym (length-segments c.self.inside.marks.items c.self.inside.records.items)
    ∙ λ i. length (c.self.view_is i).segments
