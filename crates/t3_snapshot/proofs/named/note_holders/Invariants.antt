use Rattle.std.proofs.Common.{◌≡◌, ◌++◌, take}
use Rattle.std.specs.List.{flat_map}
use Rattle.t3_snapshot.specs.State.{named_by}
use Rattle.t3_snapshot.proofs.named.note_holders.Given as goal

abbrev pub invariant-loop-holder : goal.invariant-loop-holder
invariant-loop-holder l = l.named.items ≡ l.fn.named.items ++ flat_map named_by (take l.holder-index l.holders)
