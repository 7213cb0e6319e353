use Rattle.std.proofs.Common.{◌-◌, length}
use Rattle.t3_ops.specs.References.{bytes_of}
use Rattle.t3_ops.proofs.Fronts.{AreAlike}
use Rattle.t3_ops.proofs.ordering.order_of_bytes.Given as goal

abbrev pub invariant-pieces : goal.invariant-pieces
invariant-pieces l = AreAlike (bytes_of l.pools.constants l.left) (bytes_of l.pools.constants l.right) l.at

abbrev pub decreases-pieces : goal.decreases-pieces
decreases-pieces l = length (bytes_of l.pools.constants l.left) - l.at
