use Rattle.t3_undo.specs.Objects.{is_noted}
use Rattle.t3_undo.specs.Journal.{newest_records}
use Rattle.t3_undo.specs.declared.cell.Cell.TheVariants as cells
use Rattle.t3_object_tests.proofs.plain_journal.mark_and_note.Goals as goal

pub note_fresh-added-requires : goal.note_fresh-added-requires
note_fresh-added-requires c =
    λ i. is_noted c.args.record.number (cells.Prop c.args.record.property) (newest_records (c.mark.ensures i).segments)
