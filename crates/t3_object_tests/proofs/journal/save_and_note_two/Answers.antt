use Rattle.std.proofs.Common.{◌∙◌, refl}
use Rattle.t3_undo.specs.Content.{shown}
use Rattle.t3_undo.specs.Objects.{is_noted}
use Rattle.t3_undo.specs.Journal.{newest_records}
use Rattle.t3_undo.specs.declared.cell.Cell.TheVariants as cells
use Rattle.t3_undo.proofs.Noting.{fresh-beside}
use Rattle.t3_object_tests.proofs.journal.save_and_note_two.Goals as goal

pub note_fresh-first-requires : goal.note_fresh-first-requires
note_fresh-first-requires c = λ i. is_noted 1 (cells.Prop 1) (newest_records (c.mark.ensures i).segments)

pub note_fresh-second-requires : goal.note_fresh-second-requires
note_fresh-second-requires c =
    (λ i. is_noted 1 (cells.Prop 2) (newest_records (c.note_fresh-first.ensures.journal i).segments))
    ∙ fresh-beside c.mark.new.self.record_limit
    (record { number = 1; cell = cells.Prop 1; old = shown c.held-old.result; stamp = 7 }) c.mark.new.self.segments 1 (cells.Prop 2) refl
    (λ i. is_noted 1 (cells.Prop 2) (newest_records (c.mark.ensures i).segments))
