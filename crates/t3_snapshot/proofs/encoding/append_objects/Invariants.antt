use Rattle.std.proofs.Common.{◌≡◌, ◌++◌, take}
use Rattle.std.specs.List.{flat_map}
use Rattle.t3_snapshot.specs.Inner.Writing.{object_written}
use Rattle.t3_snapshot.proofs.encoding.append_objects.Given as goal

abbrev pub invariant-loop-number : goal.invariant-loop-number
invariant-loop-number l = l.out.items ≡ l.fn.out.items ++ flat_map (object_written l.state) (take l.number-index l.numbers)
