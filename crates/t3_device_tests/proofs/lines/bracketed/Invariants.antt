use Rattle.std.proofs.Common.{◌≡◌}
use Rattle.t3_device_tests.proofs.lines.bracketed.Given as goal

abbrev pub invariant-loop-turn : goal.invariant-loop-turn
invariant-loop-turn g l = g.C.Console.faults l.console ≡ g.C.Console.faults l.fn.console
