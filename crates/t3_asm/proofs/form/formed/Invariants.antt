use Rattle.std.proofs.Common.{◌≡◌, ◌+◌, ◌<◌, [], length}
use Rattle.t3_asm_line.specs.Lines.{lines_of}
use Rattle.t3_asm.specs.Forms.{formed_from}
use Rattle.t3_asm.specs.Inner.Forming.{AreReached}
use Rattle.t3_asm.proofs.form.formed.Given as goal

abbrev pub invariant-loop-rest : goal.invariant-loop-rest
invariant-loop-rest l =
    (formed_from l.line l.draft (lines_of l.rest) ≡ formed_from 1 [] (lines_of l.text))
    × ((l.line + length (lines_of l.rest) ≡ 1 + length (lines_of l.text)) × ((0 < l.line) × AreReached l.line l.draft))

abbrev pub decreases-loop-rest : goal.decreases-loop-rest
decreases-loop-rest l = length l.rest
