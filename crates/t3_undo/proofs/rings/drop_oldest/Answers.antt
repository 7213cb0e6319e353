use Rattle.std.proofs.Common.{◌≡◌, ◌∙◌, ◌-◌, length, drop}
use Rattle.t3_undo.specs.Inner.Rings.{segments_of}
use Rattle.t3_undo.proofs.RingLists.{segments-oldest, oldest-fits, kept-last}
use Rattle.t3_undo.proofs.rings.drop_oldest.Goals as goal
use Rattle.t3_undo.proofs.rings.drop_oldest.Goals.{After-truncate_front}

left : (c : After-truncate_front) → c.truncate_front.new.self.items ≡ drop c.in-Some.oldest.count c.args.records.now.items
left c =
    let fits = oldest-fits c.args.marks.now.items c.in-Some.oldest c.args.records.now.items c.in-Some.ensures.value c.requires.counted in
    (λ i. (c.truncate_front.ensures i).items)
    ∙ (λ i. drop (length c.args.records.now.items - (c.len.ensures.len i - c.in-Some.oldest.count)) c.args.records.now.items)
    ∙ kept-last c.in-Some.oldest.count c.args.records.now.items fits

pub returns-in-Some-clause-segments : goal.returns-in-Some-clause-segments
returns-in-Some-clause-segments c =
    (λ i. segments_of (c.in-Some.ensures.items i).items (left c i))
    ∙ segments-oldest c.args.marks.now.items c.in-Some.oldest c.args.records.now.items c.in-Some.ensures.value c.requires.counted
