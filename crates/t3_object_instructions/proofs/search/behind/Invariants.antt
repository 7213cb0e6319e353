use Rattle.std.proofs.Common.{◌≡◌, drop}
use Rattle.t3_object_instructions.specs.Search.{behind}
use Rattle.t3_object_instructions.proofs.search.behind.Given as goal

-- it isn't among those that were gone over
abbrev pub invariant-loop-index : goal.invariant-loop-index
invariant-loop-index l = behind l.number (drop l.index l.numbers) ≡ behind l.number l.numbers
