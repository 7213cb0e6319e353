use Rattle.std.proofs.Common.{◌∙◌, ◌∷◌, [], refl}
use Rattle.t3_undo.specs.Inner.Rings.{segments_of}
use Rattle.t3_undo.proofs.RingLists.{segments-marked}
use Rattle.t3_undo.proofs.rings.add_mark.Goals as goal

pub returns-clause-segments : goal.returns-clause-segments
returns-clause-segments c =
    (λ i. segments_of (c.push.ensures i).items c.make_mark_room.new.records.items)
    ∙ segments-marked c.make_mark_room.new.marks.items (record { serial = c.args.serial; next = c.args.next; count = 0 })
    c.make_mark_room.new.records.items refl
    ∙ λ i. record { serial = c.args.serial; next = c.args.next; records = [] } ∷ c.make_mark_room.ensures.segments i
