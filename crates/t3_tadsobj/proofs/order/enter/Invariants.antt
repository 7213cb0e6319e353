use Rattle.std.proofs.Common.{◌≡◌, ◌++◌, take, map}
use Rattle.t3_tadsobj.specs.declared.order.Task.TheVariants.{Enter}
use Rattle.t3_tadsobj.proofs.order.enter.Given as goal

abbrev pub invariant-loop-next : goal.invariant-loop-next
invariant-loop-next g l = l.tasks.items ≡ l.initial.tasks.items ++ map Enter (take l.next-index l.supers)
