use Rattle.std.proofs.Common.{◌-◌, ◌^◌}
use Rattle.t3_snapshot.proofs.Walk.{IsWalked}
use Rattle.t3_snapshot.proofs.encoding.numbers_of.Given as goal

abbrev pub invariant-loop-next : goal.invariant-loop-next
invariant-loop-next l = IsWalked l.state l.numbers.items l.number

abbrev pub decreases-loop-next : goal.decreases-loop-next
decreases-loop-next l = 2 ^ 32 - l.number
