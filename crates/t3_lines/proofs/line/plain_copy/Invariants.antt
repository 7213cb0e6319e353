use Rattle.std.proofs.Common.{◌≡◌, map, take}
use Rattle.t3_lines.specs.Lines.{plain}
use Rattle.t3_lines.proofs.line.plain_copy.Given as goal

abbrev pub invariant-loop-byte : goal.invariant-loop-byte
invariant-loop-byte l = l.copy.items ≡ map plain (take l.byte-index l.line)
