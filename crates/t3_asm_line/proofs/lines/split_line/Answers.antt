use Rattle.std.proofs.Common.{add-one}
use Rattle.std.proofs.lemmas.List.{take_rest}
use Rattle.t3_asm_line.proofs.LineEnds.{lines_of-first, parted_first}
use Rattle.t3_asm_line.proofs.lines.split_line.Goals as goal

pub returns-then-byte-eq-NEWLINE-clause-lines : goal.returns-then-byte-eq-NEWLINE-clause-lines
returns-then-byte-eq-NEWLINE-clause-lines c =
    rw (add-one, take_rest)
    (lines_of-first c.args.text.now c.loop-at.at c.loop-at-test.true c.if-byte-eq-NEWLINE.true c.loop-at.invariant)

pub returns-then-byte-eq-NEWLINE-clause-first : goal.returns-then-byte-eq-NEWLINE-clause-first
returns-then-byte-eq-NEWLINE-clause-first c =
    rw (add-one, take_rest)
    (parted_first c.args.text.now c.loop-at.at c.loop-at-test.true c.if-byte-eq-NEWLINE.true c.loop-at.invariant)
