use Rattle.std.proofs.Common.{◌≡◌, ◌∙◌, sym, subst, length, arith}
use Rattle.t3_undo.specs.Journal.{HaveDistinctCells}
use Rattle.t3_undo.specs.Inner.Rings.{counted, segments_of}
use Rattle.t3_undo.proofs.RingLists.{segments-none}
use Rattle.t3_undo.proofs.journal.Journal.start.Goals as goal

pub invariant_of-result : goal.invariant_of-result
invariant_of-result c =
    let no_marks : length c.in_ok-with_capacity.field-0.items ≡ 0 = λ i. length (c.in_ok-with_capacity.ensures i).items in
    let no_records : length c.in_ok-with_capacity-2.field-0.items ≡ 0 = λ i. length (c.in_ok-with_capacity-2.ensures i).items in
    let mark_room : c.in_ok-with_capacity.field-0.capacity ≡ c.args.savepoints = λ i. (c.in_ok-with_capacity.ensures i).capacity in
    let record_room : c.in_ok-with_capacity-2.field-0.capacity ≡ c.args.records = λ i. (c.in_ok-with_capacity-2.ensures i).capacity in
    record {
      counted = (λ i. counted (c.in_ok-with_capacity.ensures i).items) ∙ λ i. length (sym c.in_ok-with_capacity-2.ensures i).items;
      apart = subst HaveDistinctCells
          (sym ((λ i. segments_of (c.in_ok-with_capacity.ensures i).items c.in_ok-with_capacity-2.field-0.items)
          ∙ segments-none c.in_ok-with_capacity-2.field-0.items)) tt;
      one_mark = c.requires.savepoints;
      one_record = c.requires.records;
      few_marks = omega (arith, no_marks);
      few_records = omega (arith, no_records);
      marks_fit = omega (arith, mark_room);
      records_fit = omega (arith, record_room);
      small_marks = omega arith;
      small_records = omega arith;
      few_made = omega arith;
    }

pub returns : goal.returns
returns c =
    let bare = (λ i. segments_of (c.in_ok-with_capacity.ensures i).items c.in_ok-with_capacity-2.field-0.items)
    ∙ segments-none c.in_ok-with_capacity-2.field-0.items in
    λ i. record { segments = bare i; marks = 0; record_limit = c.args.records; mark_limit = c.args.savepoints }
