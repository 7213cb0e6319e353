use Rattle.std.proofs.Common.{ap, sym}
use Rattle.t3_undo.specs.Journal.{oldest_serial}
use Rattle.t3_undo.proofs.RingLists.{segments-front, segments-frontless}
use Rattle.t3_undo.proofs.newest.oldest_serial.Goals as goal

pub returns-in-Some : goal.returns-in-Some
returns-in-Some c = sym (segments-front c.args.marks.now.items c.in-Some.mark.now c.args.records.now.items c.in-Some.ensures)

pub returns-in-None : goal.returns-in-None
returns-in-None c = sym (ap oldest_serial (segments-frontless c.args.marks.now.items c.args.records.now.items c.in-None.ensures))
