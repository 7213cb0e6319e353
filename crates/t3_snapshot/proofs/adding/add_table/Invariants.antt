use Rattle.std.proofs.Common.{length, reverse}
use Rattle.t3_snapshot.proofs.OneMore.{IsFilling}
use Rattle.t3_snapshot.proofs.adding.add_table.Given as goal

abbrev pub invariant-loop-key : goal.invariant-loop-key
invariant-loop-key l = IsFilling l.fn.state l.state l.number l.fn.pairs.items l.fn.default (reverse l.pairs.items)

abbrev pub decreases-loop-key : goal.decreases-loop-key
decreases-loop-key l = length l.pairs.items
