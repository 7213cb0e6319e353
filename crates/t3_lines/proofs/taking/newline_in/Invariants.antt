use Rattle.std.proofs.Common.{◌≡◌, take}
use Rattle.t3_lines.specs.Lines.{ended_lines}
use Rattle.t3_lines.proofs.taking.newline_in.Given as goal

abbrev pub invariant-loop-place : goal.invariant-loop-place
invariant-loop-place l = ended_lines (take l.place l.bytes) ≡ 0
