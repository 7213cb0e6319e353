use Rattle.std.proofs.Common.{◌≡◌, take}
use Rattle.t3_load.specs.Kinds.{numbers_of}
use Rattle.t3_load.proofs.kinds.numbers.Given as goal

abbrev pub invariant-loop-prop : goal.invariant-loop-prop
invariant-loop-prop l = l.numbers.items ≡ numbers_of (take l.prop-index l.props)
