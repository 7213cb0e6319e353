use Rattle.std.proofs.Common.{◌≡◌, take}
use Rattle.t3_kinds.specs.TextMethods.{character_count}
use Rattle.t3_kinds.proofs.texts.character_count.Given as goal

abbrev pub invariant-loop-byte : goal.invariant-loop-byte
invariant-loop-byte l = l.count ≡ character_count (take l.byte-index l.bytes)
