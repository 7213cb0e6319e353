use Rattle.std.proofs.Common.{◌≡◌, ◌∙◌, ◌<◌, ◌≤◌, ◌+◌, ◌-◌, ap, sym, length, arith}
use Rattle.t3_undo.specs.Journal.{room, total}
use Rattle.t3_undo.specs.Inner.Rings.{segments_of}
use Rattle.t3_undo.proofs.RingLists.{segments-empty, length-segments, total-segments}
use Rattle.t3_undo.proofs.Noting.{room-fits, room-dropped, above-zero, is-zero}
use Rattle.t3_undo.proofs.rings.make_room.Goals as goal

pub loop-records-preserved : goal.loop-records-preserved
loop-records-preserved c =
    let some = above-zero _ c.is_empty.result c.is_empty.ensures c.loop-records-test.true in
    let marks : length c.loop-records.marks.items - 1 + 1 ≡ length (segments_of c.loop-records.marks.items c.loop-records.records.items) =
    omega (arith, some, length-segments c.loop-records.marks.items c.loop-records.records.items) in
    let full : c.args.limit ≤ total (segments_of c.loop-records.marks.items c.loop-records.records.items) =
    omega (
      arith,
      c.if-len-limit.true,
      c.len.ensures.len,
      total-segments c.loop-records.marks.items c.loop-records.records.items c.loop-records.invariant.counted,
    ) in
    record {
      segments =
          ap (room c.args.limit) c.drop_oldest.ensures.segments
          ∙ room-dropped c.args.limit (length c.loop-records.marks.items - 1)
          (segments_of c.loop-records.marks.items c.loop-records.records.items) marks full
          ∙ c.loop-records.invariant.segments;
      counted = c.drop_oldest.ensures.counted;
      marks = omega (arith, c.drop_oldest.ensures.marks, c.loop-records.invariant.marks);
      records = omega (arith, c.drop_oldest.ensures.records, c.loop-records.invariant.records);
      mark_room = c.drop_oldest.ensures.mark_room ∙ c.loop-records.invariant.mark_room;
      record_room = c.drop_oldest.ensures.record_room ∙ c.loop-records.invariant.record_room;
    }

pub returns-else-len-limit-clause-segments : goal.returns-else-len-limit-clause-segments
returns-else-len-limit-clause-segments c =
    let free : total (segments_of c.loop-records.marks.items c.loop-records.records.items) < c.args.limit =
    omega (
      arith,
      c.if-len-limit.false,
      c.len.ensures.len,
      total-segments c.loop-records.marks.items c.loop-records.records.items c.loop-records.invariant.counted,
    ) in
    sym (room-fits c.args.limit (segments_of c.loop-records.marks.items c.loop-records.records.items) free)
    ∙ c.loop-records.invariant.segments

pub returns-after-loop-records-clause-segments : goal.returns-after-loop-records-clause-segments
returns-after-loop-records-clause-segments c =
    let none = is-zero _ c.is_empty.result c.is_empty.ensures c.loop-records-test.false in
    let bare = segments-empty c.loop-records.marks.items c.loop-records.records.items none in
    bare ∙ sym (ap (room c.args.limit) bare) ∙ c.loop-records.invariant.segments
