use Rattle.std.proofs.Common.{◌∙◌, sym}
use Rattle.t3_undo.specs.Journal.{newest_record}
use Rattle.t3_object_tests.proofs.Journals.{none-still}
use Rattle.t3_object_tests.proofs.plain_journal.take.Goals as goal

pub take_mark-requires : goal.take_mark-requires
take_mark-requires c =
    (λ i. newest_record (c.take_kept.ensures.left i).segments) ∙ none-still c.args.journal.now.segments (sym c.in-None.ensures.kept)
