use Rattle.std.proofs.Common.{◌≡◌, ◌++◌, take}
use Rattle.std.specs.List.{flat_map}
use Rattle.t3_snapshot.specs.Inner.Writing.{kept_text}
use Rattle.t3_snapshot.proofs.append.append_entries.Given as goal

abbrev pub invariant-loop-pair : goal.invariant-loop-pair
invariant-loop-pair l = l.out.items ≡ l.fn.out.items ++ flat_map (kept_text l.state) (take l.pair-index l.pairs)
