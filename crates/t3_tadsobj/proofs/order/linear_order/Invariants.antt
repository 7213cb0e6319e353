use Rattle.std.proofs.Common.{length}
use Rattle.t3_tadsobj.proofs.OrderVisits.{total, work_of, IsWalking}
use Rattle.t3_tadsobj.proofs.order.linear_order.Given as goal

abbrev pub invariant-loop-task : goal.invariant-loop-task
invariant-loop-task g l = IsWalking (g.S.Supers.supers_at l.view) (length (g.S.Supers.numbers l.view)) l.number l.tasks.items
    l.order.items l.seen.keys

abbrev pub decreases-loop-task : goal.decreases-loop-task
decreases-loop-task g l = total (work_of (g.S.Supers.supers_at l.view) (length (g.S.Supers.numbers l.view))) l.tasks.items
