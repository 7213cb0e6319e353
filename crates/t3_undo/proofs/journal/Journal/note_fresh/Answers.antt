use Rattle.std.proofs.Common.{sym, subst, arith}
use Rattle.t3_undo.specs.Journal.{HaveDistinctCells}
use Rattle.t3_undo.proofs.Apart.{apart-note_in}
use Rattle.t3_undo.proofs.journal.Journal.note_fresh.Goals as goal

pub invariant_of-self : goal.invariant_of-self
invariant_of-self c = record {
  counted = c.note_fresh_record.ensures.counted;
  apart = subst HaveDistinctCells (sym c.note_fresh_record.ensures.segments)
      (apart-note_in c.self.inside.record_limit _ _ c.self.invariant.apart);
  one_mark = c.self.invariant.one_mark;
  one_record = c.self.invariant.one_record;
  few_marks = omega (arith, c.note_fresh_record.ensures.marks, c.self.invariant.few_marks);
  few_records = c.note_fresh_record.ensures.records;
  marks_fit = omega (arith, c.note_fresh_record.ensures.mark_room, c.self.invariant.marks_fit);
  records_fit = omega (arith, c.note_fresh_record.ensures.record_room, c.self.invariant.records_fit);
  small_marks = c.self.invariant.small_marks;
  small_records = c.self.invariant.small_records;
  few_made = c.self.invariant.few_made;
}
