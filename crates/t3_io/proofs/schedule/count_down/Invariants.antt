use Rattle.t3_io.proofs.Countdown.{IsCountedTo}
use Rattle.t3_io.proofs.schedule.count_down.Given as goal

abbrev pub invariant-loop-at : goal.invariant-loop-at
invariant-loop-at l = IsCountedTo l.initial.numbers l.numbers l.kept l.at
