use Rattle.std.proofs.Common.{◌≡◌, map, take}
use Rattle.t3_tables.specs.declared.pair.Pair.{Pair}
use Rattle.t3_kinds.proofs.tables.values.Given as goal

abbrev pub invariant-loop-pair : goal.invariant-loop-pair
invariant-loop-pair l = l.items.items ≡ map (λ (pair : Pair). pair.value) (take l.pair-index l.pairs)
