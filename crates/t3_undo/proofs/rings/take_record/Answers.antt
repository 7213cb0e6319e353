use Rattle.std.proofs.Common.{◌≡◌, ◌∙◌, ap, sym, [], length, arith}
use Rattle.t3_undo.specs.Journal.{newest_record, but_newest_record}
use Rattle.t3_undo.specs.Inner.Rings.{segments_of, counted}
use Rattle.t3_undo.proofs.RingLists.{IsTaken, segments-unheld, newest-bare, newest-gone, segments-gone, counted-gone}
use Rattle.t3_undo.proofs.rings.take_record.Goals as goal
use Rattle.t3_undo.proofs.rings.take_record.Goals.{In_default, After-pop_back}

unheld : (c : In_default) → segments_of c.args.marks.now.items c.args.records.now.items ≡ []
unheld c = segments-unheld c.args.marks.now.items c.args.records.now.items (sym c.in_default.is ∙ c.copied.ensures ∙ c.back.ensures)

pub returns-in_default-clause-kept : goal.returns-in_default-clause-kept
returns-in_default-clause-kept c = sym (ap newest_record (unheld c))

pub returns-in_default-clause-segments : goal.returns-in_default-clause-segments
returns-in_default-clause-segments c = unheld c ∙ sym (ap but_newest_record (unheld c))

pub returns-then-newest-eq0-clause-kept : goal.returns-then-newest-eq0-clause-kept
returns-then-newest-eq0-clause-kept c =
    sym (ap newest_record (newest-bare c.args.marks.now.items c.in-Some.newest c.args.records.now.items
    (sym c.in-Some.is ∙ c.copied.ensures ∙ c.back.ensures) c.if-newest-eq0.true))

pub returns-then-newest-eq0-clause-segments : goal.returns-then-newest-eq0-clause-segments
returns-then-newest-eq0-clause-segments c =
    let bare = newest-bare c.args.marks.now.items c.in-Some.newest c.args.records.now.items
    (sym c.in-Some.is ∙ c.copied.ensures ∙ c.back.ensures) c.if-newest-eq0.true in
    bare ∙ sym (ap but_newest_record bare)

taken : (c : After-pop_back) → IsTaken c.args.marks.now.items c.in-Some.newest c.args.records.now.items c.pop_back.result
taken c = record {
  is = sym c.in-Some.is ∙ c.copied.ensures ∙ c.back.ensures;
  some = omega (arith, c.if-newest-eq0.false);
  all = c.requires;
  last = c.pop_back.ensures.value;
}

pub returns-clause-kept : goal.returns-clause-kept
returns-clause-kept c = newest-gone c.args.marks.now.items c.in-Some.newest c.args.records.now.items c.pop_back.result (taken c)

pub returns-clause-segments : goal.returns-clause-segments
returns-clause-segments c =
    (λ i. segments_of (c.set_newest.ensures i).items (c.pop_back.ensures.items i).items)
    ∙ segments-gone c.args.marks.now.items c.in-Some.newest c.args.records.now.items c.pop_back.result (taken c)

pub returns-clause-counted : goal.returns-clause-counted
returns-clause-counted c =
    (λ i. counted (c.set_newest.ensures i).items)
    ∙ counted-gone c.args.marks.now.items c.in-Some.newest c.args.records.now.items c.pop_back.result (taken c)
    ∙ λ i. length (sym c.pop_back.ensures.items i).items
