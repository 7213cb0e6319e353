use Rattle.std.proofs.Common.{◌≡◌, ◌+◌, ◌*◌, ◌^◌, ◌<◌}
use Rattle.t3_methods.specs.Operands.{HasCases}
use Rattle.t3_methods.proofs.cases.has_switch.Given as goal

-- so many cases stand, and the next would stand behind them
abbrev pub invariant-loop : goal.invariant-loop
invariant-loop l = record {
  next : l.next ≡ l.at + 7 * l.counter;
  below : l.next < 2 ^ 31;
  cases : HasCases l.pools.code l.at l.counter;
}
