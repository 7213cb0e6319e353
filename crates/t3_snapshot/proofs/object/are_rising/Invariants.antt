use Rattle.std.proofs.Common.{◌≡◌, drop}
use Rattle.t3_snapshot.specs.Inner.Reading.{are_rising}
use Rattle.t3_snapshot.proofs.object.are_rising.Given as goal

-- what is told of the rest is told of all
abbrev pub invariant-loop-prop : goal.invariant-loop-prop
invariant-loop-prop l = are_rising l.last (drop l.prop-index l.props) ≡ are_rising 0 l.fn.props
