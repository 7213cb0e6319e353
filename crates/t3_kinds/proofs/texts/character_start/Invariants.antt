use Rattle.std.proofs.Common.{◌≡◌, ◌+◌, drop}
use Rattle.t3_kinds.specs.TextMethods.{character_start}
use Rattle.t3_kinds.proofs.texts.character_start.Given as goal

abbrev pub invariant-loop-index : goal.invariant-loop-index
invariant-loop-index l = character_start l.number l.bytes ≡ l.index + character_start l.left (drop l.index l.bytes)
