use Rattle.std.proofs.Common.{◌≡◌, ◌-◌, false, length}
use Rattle.t3_lines.specs.Lines.{limit}
use Rattle.t3_lines.proofs.TakenPieces.{IsTaking}
use Rattle.t3_lines.proofs.taking.take_to_newline.Given as goal

abbrev pub invariant-loop-taken : goal.invariant-loop-taken
invariant-loop-taken g l = record {
  taking : IsTaking l.fn.taken.items l.taken.items (g.C.Console.session l.fn.console) (g.C.Console.session l.console);
  faults : g.C.Console.faults l.console ≡ g.C.Console.faults l.fn.console;
  running : l.is_ended ≡ false;
}

abbrev pub decreases-loop-taken : goal.decreases-loop-taken
decreases-loop-taken g l = limit - length l.taken.items
