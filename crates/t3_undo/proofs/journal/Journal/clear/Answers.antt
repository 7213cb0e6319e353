use Rattle.std.proofs.Common.{◌≡◌, ◌∙◌, sym, subst, length, arith}
use Rattle.t3_undo.specs.Journal.{HaveDistinctCells}
use Rattle.t3_undo.specs.Inner.Rings.{counted, segments_of}
use Rattle.t3_undo.proofs.RingLists.{segments-none}
use Rattle.t3_undo.proofs.journal.Journal.clear.Goals as goal

pub invariant_of-self : goal.invariant_of-self
invariant_of-self c =
    let no_marks : length c.clear.new.self.items ≡ 0 = λ i. length (c.clear.ensures i).items in
    let no_records : length c.clear-2.new.self.items ≡ 0 = λ i. length (c.clear-2.ensures i).items in
    let mark_room : c.clear.new.self.capacity ≡ c.self.inside.marks.capacity = λ i. (c.clear.ensures i).capacity in
    let record_room : c.clear-2.new.self.capacity ≡ c.self.inside.records.capacity = λ i. (c.clear-2.ensures i).capacity in
    record {
      counted = (λ i. counted (c.clear.ensures i).items) ∙ λ i. length (sym c.clear-2.ensures i).items;
      apart = subst HaveDistinctCells
          (sym ((λ i. segments_of (c.clear.ensures i).items c.clear-2.new.self.items) ∙ segments-none c.clear-2.new.self.items)) tt;
      one_mark = c.self.invariant.one_mark;
      one_record = c.self.invariant.one_record;
      few_marks = omega (arith, no_marks);
      few_records = omega (arith, no_records);
      marks_fit = omega (arith, mark_room, c.self.invariant.marks_fit);
      records_fit = omega (arith, record_room, c.self.invariant.records_fit);
      small_marks = c.self.invariant.small_marks;
      small_records = c.self.invariant.small_records;
      few_made = c.self.invariant.few_made;
    }

pub returns : goal.returns
returns c =
    let bare = (λ i. segments_of (c.clear.ensures i).items c.clear-2.new.self.items) ∙ segments-none c.clear-2.new.self.items in
    λ i. record {
      segments = bare i;
      marks = (c.self.view_is i).marks;
      record_limit = (c.self.view_is i).record_limit;
      mark_limit = (c.self.view_is i).mark_limit;
    }
