use Rattle.std.proofs.Common.{◌≡◌, List, ℕ}
use Rattle.t3_load.specs.Loading.{ProgramValue}
use Rattle.t3_run.specs.Running.{Outside, outside}
use Rattle.t3_run.specs.Inner.Playing.{Play, IsPageOf, IsAt}
use Rattle.t3_run.proofs.play.play.Given as goal

-- the run that is carried out
abbrev pub play_of : ProgramValue → ℕ → ℕ → Outside → Play
play_of program steps width before = record { program = program; steps = steps; width = width; before = before }

abbrev pub invariant-loop-left : goal.invariant-loop-left
invariant-loop-left g l = record {
  turned : (text : List ℕ)
      × IsPageOf (play_of l.fn.machine.program l.steps l.fn.screen.page.width
      (outside (g.D.Depot.files l.fn.depot) (g.C.Console.session l.fn.console))) l.screen text
      × IsAt (play_of l.fn.machine.program l.steps l.fn.screen.page.width
      (outside (g.D.Depot.files l.fn.depot) (g.C.Console.session l.fn.console))) l.left l.machine text l.screen.out.items l.lines
      (outside (g.D.Depot.files l.depot) (g.C.Console.session l.console));
  depot : g.D.Depot.faults l.depot ≡ g.D.Depot.faults l.fn.depot;
  console : g.C.Console.faults l.console ≡ g.C.Console.faults l.fn.console;
}

abbrev pub decreases-loop-left : goal.decreases-loop-left
decreases-loop-left g l = l.left
