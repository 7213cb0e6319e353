use Rattle.std.proofs.Common.{◌≡◌, ◌-◌, ◌≤◌}
use Rattle.t3_files.specs.Reading.{read_limit}
use Rattle.t3_files.proofs.Pieces.{HasTaken}
use Rattle.t3_files.proofs.reading.read_into.Given as goal

abbrev pub invariant-loop-at : goal.invariant-loop-at
invariant-loop-at g l = record {
  near : l.at ≤ read_limit;
  taken : HasTaken (g.D.Depot.files l.fn.depot) l.name l.text.items l.at;
  files : g.D.Depot.files l.depot ≡ g.D.Depot.files l.fn.depot;
  faults : g.D.Depot.faults l.depot ≡ g.D.Depot.faults l.fn.depot;
}

abbrev pub decreases-loop-at : goal.decreases-loop-at
decreases-loop-at g l = read_limit - l.at
