use Rattle.std.proofs.Common.{◌≡◌, drop}
use Rattle.t3_kinds.specs.Search.{searched}
use Rattle.t3_kinds.proofs.search.first_with.Given as goal

-- none of those that were gone over has it
abbrev pub invariant-loop-number : goal.invariant-loop-number
invariant-loop-number l =
    searched l.store.store l.property (drop l.number-index l.numbers) ≡ searched l.store.store l.property l.numbers
