use Rattle.std.proofs.Common.{◌≡◌, ◌≤◌, length}
use Rattle.t3_undo.specs.Journal.{room}
use Rattle.t3_undo.specs.Inner.Rings.{segments_of, AreCounted}
use Rattle.t3_undo.proofs.rings.make_room.Given as goal

abbrev pub invariant-loop-records : goal.invariant-loop-records
invariant-loop-records l = record {
  segments : room l.limit (segments_of l.marks.items l.records.items)
      ≡ room l.limit (segments_of l.initial.marks.items l.initial.records.items);
  counted : AreCounted l.marks.items l.records.items;
  marks : length l.marks.items ≤ length l.initial.marks.items;
  records : length l.records.items ≤ length l.initial.records.items;
  mark_room : l.marks.capacity ≡ l.initial.marks.capacity;
  record_room : l.records.capacity ≡ l.initial.records.capacity;
}

abbrev pub decreases-loop-records : goal.decreases-loop-records
decreases-loop-records l = length l.marks.items
