use Rattle.std.proofs.Common.{arith}
use Rattle.t3_io.proofs.Countdown.{counted_set, counted_same, counted_all}
use Rattle.t3_io.proofs.schedule.count_down.Goals.{then-number-gt0, else-number-gt0}
use Rattle.t3_io.proofs.schedule.count_down.Goals as goal

pub loop-at-preserved : goal.loop-at-preserved
loop-at-preserved c =
    let first = c.args.numbers.now in
    let numbers = c.loop-at.numbers in
    elim c.if-number-gt0.branch [
      | then-number-gt0 w ↦ counted_set first numbers _ c.loop-at.kept _ c.loop-at.at c.loop-at.invariant (omega arith) w.if-number-gt0.true w.numbers-is w.kept-is
      | else-number-gt0 w ↦ counted_same first numbers _ c.loop-at.kept _ c.loop-at.at c.loop-at.invariant (omega arith) w.if-number-gt0.false w.numbers-is w.kept-is
    ]

pub returns : goal.returns
returns c = counted_all c.args.numbers.now c.loop-at.numbers c.loop-at.kept c.loop-at.at c.loop-at.invariant (omega arith)
