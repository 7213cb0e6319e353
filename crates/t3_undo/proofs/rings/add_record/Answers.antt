use Rattle.std.proofs.Common.{◌≡◌, ◌∙◌, ap, sym, Some, length, arith}
use Rattle.circular_buffer.specs.Buffer.{last_item}
use Rattle.t3_undo.specs.Journal.{old_of, add}
use Rattle.t3_undo.specs.Inner.Rings.{segments_of, counted}
use Rattle.t3_undo.proofs.RingLists.{segments-unheld, segments-added, counted-added, some-mark, last-fits}
use Rattle.t3_undo.proofs.rings.add_record.Goals as goal
use Rattle.t3_undo.proofs.rings.add_record.Goals.{After-push}

pub overflow_add-newest : goal.overflow_add-newest
overflow_add-newest c =
    let last = sym c.in-Some.is ∙ c.copied.ensures ∙ c.back.ensures in
    let some = some-mark c.args.marks.now.items c.in-Some.newest last in
    let fits = last-fits c.args.marks.now.items c.in-Some.newest c.args.records.now.items last c.requires.counted in
    let small = c.requires.small some in
    omega arith

last-after : (c : After-push) → Some c.in-Some.newest ≡ last_item c.args.marks.now.items
last-after c = sym c.in-Some.is ∙ c.copied.ensures ∙ c.back.ensures

pub returns-in-Some-clause-segments : goal.returns-in-Some-clause-segments
returns-in-Some-clause-segments c =
    (λ i. segments_of (c.set_newest.ensures i).items (c.push.ensures i).items)
    ∙ segments-added c.args.marks.now.items c.in-Some.newest c.args.records.now.items c.args.kept (last-after c)

pub returns-in-Some-clause-counted : goal.returns-in-Some-clause-counted
returns-in-Some-clause-counted c =
    (λ i. counted (c.set_newest.ensures i).items)
    ∙ counted-added c.args.marks.now.items c.in-Some.newest c.args.records.now.items c.args.kept (last-after c) c.requires.counted
    ∙ λ i. length (sym c.push.ensures i).items

pub returns-in_default-clause-segments : goal.returns-in_default-clause-segments
returns-in_default-clause-segments c =
    let none = sym c.in_default.is ∙ c.copied.ensures ∙ c.back.ensures in
    let unheld = segments-unheld c.args.marks.now.items c.args.records.now.items none in
    unheld ∙ sym (ap (add (old_of c.args.kept)) unheld)
