use Rattle.std.proofs.Common.{◌≡◌, ◌++◌, take}
use Rattle.std.specs.List.{flat_map}
use Rattle.t3_snapshot.specs.State.{named_by}
use Rattle.t3_snapshot.proofs.named.note_values.Given as goal

abbrev pub invariant-loop-pair : goal.invariant-loop-pair
invariant-loop-pair l = l.named.items ≡ l.fn.named.items ++ flat_map (λ pair. named_by pair.value) (take l.pair-index l.pairs)
