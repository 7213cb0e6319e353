use Rattle.std.proofs.Common.{ap, sym}
use Rattle.t3_undo.specs.Inner.Rings.{is_older}
use Rattle.t3_undo.proofs.RingLists.{segments-last, segments-unheld}
use Rattle.t3_undo.proofs.newest.is_older.Goals as goal

pub returns-in-Some : goal.returns-in-Some
returns-in-Some c =
    sym (ap (is_older c.args.number) (segments-last c.args.marks.now.items c.in-Some.newest.now c.args.records.now.items c.in-Some.ensures))

pub returns-in-None : goal.returns-in-None
returns-in-None c = sym (ap (is_older c.args.number) (segments-unheld c.args.marks.now.items c.args.records.now.items c.in-None.ensures))
