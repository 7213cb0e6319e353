use Rattle.std.proofs.Common.{rules}
use Rattle.t3_drill.proofs.Texts.{drawn_savepoint, drawn_undo, drawn_set}
use Rattle.t3_drill.proofs.actions.append_drawn.Goals as goal

pub returns-in_ok-extend_from_slice : goal.returns-in_ok-extend_from_slice
returns-in_ok-extend_from_slice c = rw (drawn_savepoint c.args.draw c.if-draw-eq0.true) (search rules)

pub returns-in_ok-extend_from_slice-2 : goal.returns-in_ok-extend_from_slice-2
returns-in_ok-extend_from_slice-2 c = rw (drawn_undo c.args.draw c.if-draw-eq1.true) (search rules)

pub returns-in_ok-append_set : goal.returns-in_ok-append_set
returns-in_ok-append_set c = rw (drawn_set c.args.draw c.if-draw-eq0.false c.if-draw-eq1.false) (search rules)
