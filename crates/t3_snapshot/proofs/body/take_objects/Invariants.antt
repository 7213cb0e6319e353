use Rattle.std.proofs.Common.{◌-◌, ◌≤◌}
use Rattle.t3_snapshot.proofs.Taking.{IsTaking}
use Rattle.t3_snapshot.proofs.body.take_objects.Given as goal

abbrev pub invariant-loop-items : goal.invariant-loop-items
invariant-loop-items l = IsTaking l.next l.bytes l.builder l.last l.items l.rest × (l.items ≤ l.due)

abbrev pub decreases-loop-items : goal.decreases-loop-items
decreases-loop-items l = l.due - l.items
