use Rattle.std.proofs.Common.{sym, ◌-◌, arith}
use Rattle.std.proofs.lemmas.List.{take_all}
use Rattle.t3_undo.specs.Inner.Rings.{segments_of}
use Rattle.t3_undo.proofs.RingLists.{length-segments}
use Rattle.t3_undo.proofs.rings.make_mark_room.Goals as goal

pub returns-else-len-limit-clause-segments : goal.returns-else-len-limit-clause-segments
returns-else-len-limit-clause-segments c =
    sym (take_all (c.args.limit - 1) (segments_of c.args.marks.now.items c.args.records.now.items)
    (omega (
      arith,
      length-segments c.args.marks.now.items c.args.records.now.items,
      c.if-len-limit.false,
      c.len.ensures.len,
      c.requires.few,
    )))
