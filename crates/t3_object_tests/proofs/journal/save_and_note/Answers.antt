use Rattle.t3_undo.specs.Objects.{is_noted}
use Rattle.t3_undo.specs.Journal.{newest_records}
use Rattle.t3_object_tests.proofs.journal.save_and_note.Goals as goal

pub note_fresh-requires : goal.note_fresh-requires
note_fresh-requires c = λ i. is_noted 1 c.args.cell (newest_records (c.mark.ensures i).segments)
