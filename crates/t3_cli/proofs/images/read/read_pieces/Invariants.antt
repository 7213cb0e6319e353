use Rattle.std.proofs.Common.{◌≡◌, ◌-◌, ◌≤◌}
use Rattle.t3_files.specs.Reading.{read_limit}
use Rattle.t3_cli.specs.Inner.Reading.{HasRead, HoldsRead}
use Rattle.t3_cli.proofs.images.read.read_pieces.Given as goal

abbrev pub invariant-loop-at : goal.invariant-loop-at
invariant-loop-at g l = record {
  near : l.at ≤ read_limit;
  reading : HasRead (g.D.Depot.files l.fn.depot) l.name l.reader l.at;
  taken : HoldsRead g.P.PieceSink.has_taken l.reader l.sink;
  files : g.D.Depot.files l.depot ≡ g.D.Depot.files l.fn.depot;
  faults : g.D.Depot.faults l.depot ≡ g.D.Depot.faults l.fn.depot;
}

abbrev pub decreases-loop-at : goal.decreases-loop-at
decreases-loop-at g l = read_limit - l.at
