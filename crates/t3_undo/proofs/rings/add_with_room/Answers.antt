use Rattle.std.proofs.Common.{◌∙◌, ap}
use Rattle.t3_undo.specs.Journal.{is_held}
use Rattle.t3_undo.proofs.Noting.{held-marks}
use Rattle.t3_undo.proofs.rings.add_with_room.Goals as goal

pub returns-clause-answer : goal.returns-clause-answer
returns-clause-answer c =
    held-marks c.make_room.new.marks.items c.make_room.new.records.items c.is_empty-held.result c.is_empty-held.ensures
    ∙ ap is_held c.make_room.ensures.segments
