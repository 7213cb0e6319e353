use Rattle.std.proofs.Common.{ap, sym}
use Rattle.t3_undo.specs.Journal.{newest_next}
use Rattle.t3_undo.proofs.RingLists.{segments-last, segments-unheld}
use Rattle.t3_undo.proofs.newest.newest_next.Goals as goal

pub returns-in-Some : goal.returns-in-Some
returns-in-Some c =
    sym (ap newest_next (segments-last c.args.marks.now.items c.in-Some.mark.now c.args.records.now.items c.in-Some.ensures))

pub returns-in-None : goal.returns-in-None
returns-in-None c = sym (ap newest_next (segments-unheld c.args.marks.now.items c.args.records.now.items c.in-None.ensures))
