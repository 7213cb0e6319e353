use Rattle.std.proofs.Common.{◌≡◌, ◌∙◌, ap, sym, subst, length, arith, rules}
use Rattle.t3_undo.specs.Content.{shown}
use Rattle.t3_undo.specs.Objects.{OldPart}
use Rattle.t3_undo.specs.Journal.{Held, note_in, HaveDistinctCells}
use Rattle.t3_undo.proofs.Apart.{apart-note_in}
use Rattle.t3_undo.proofs.RingLists.{segments-empty}
use Rattle.t3_undo.proofs.journal.Journal.note.Goals as goal

pub invariant_of-self : goal.invariant_of-self
invariant_of-self c = record {
  counted = c.note_record.ensures.counted;
  apart = subst HaveDistinctCells (sym c.note_record.ensures.segments)
      (apart-note_in c.self.inside.record_limit _ _ c.self.invariant.apart);
  one_mark = c.self.invariant.one_mark;
  one_record = c.self.invariant.one_record;
  few_marks = omega (arith, c.note_record.ensures.marks, c.self.invariant.few_marks);
  few_records = c.note_record.ensures.records;
  marks_fit = omega (arith, c.note_record.ensures.mark_room, c.self.invariant.marks_fit);
  records_fit = omega (arith, c.note_record.ensures.record_room, c.self.invariant.records_fit);
  small_marks = c.self.invariant.small_marks;
  small_records = c.self.invariant.small_records;
  few_made = c.self.invariant.few_made;
}

pub returns-else-not-is_empty : goal.returns-else-not-is_empty
returns-else-not-is_empty c =
    let journal = c.args.self.now in
    let none : length c.self.inside.marks.items ≡ 0 = search rules in
    let part : OldPart = record { number = c.args.number; cell = c.args.cell; old = shown c.args.old; stamp = 0 } in
    let bare = sym (ap (λ (held : Held). held.segments) c.self.view_is)
    ∙ segments-empty c.self.inside.marks.items c.self.inside.records.items none in
    (λ i. record journal { segments = (bare ∙ sym (ap (note_in journal.record_limit part) bare)) i })
