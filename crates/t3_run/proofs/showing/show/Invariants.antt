use Rattle.std.proofs.Common.{◌≡◌, ◌-◌, ◌≤◌, length, take}
use Rattle.t3_run.specs.Showing.{ShowsMore}
use Rattle.t3_run.proofs.showing.show.Given as goal

abbrev pub invariant-loop-at : goal.invariant-loop-at
invariant-loop-at g l = record {
  within : l.at ≤ length l.text;
  shown : ShowsMore (g.C.Console.session l.fn.console) (g.C.Console.session l.console) (take l.at l.text);
  faults : g.C.Console.faults l.console ≡ g.C.Console.faults l.fn.console;
}

abbrev pub decreases-loop-at : goal.decreases-loop-at
decreases-loop-at g l = length l.text - l.at
