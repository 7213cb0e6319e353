use Rattle.std.proofs.Common.{◌≡◌, ◌++◌, take, drop}
use Rattle.t3_blocks.specs.Spelling.{masked_bytes}
use Rattle.t3_blocks.proofs.parts.lay_mask.Given as goal

abbrev pub invariant-loop-byte : goal.invariant-loop-byte
invariant-loop-byte l = l.bytes ≡ masked_bytes l.mask (take l.byte-index l.initial.bytes) ++ drop l.byte-index l.initial.bytes
