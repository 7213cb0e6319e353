use Rattle.std.proofs.Common.{◌≡◌, map, take}
use Rattle.t3_store.proofs.entries.numbers_of.Given as goal

abbrev pub invariant-loop-entry : goal.invariant-loop-entry
invariant-loop-entry l = l.numbers.items ≡ map (λ entry. entry.number) (take l.entry-index l.entries)
