use Rattle.std.proofs.Common.{◌+◌, ◌*◌, length}
use Rattle.t3_ops.specs.Inner.Walk.{pairs_of}
use Rattle.t3_ops.proofs.Walking.{Walks}
use Rattle.t3_ops.proofs.equality.equal_pairs.Given as goal

abbrev pub invariant-walk : goal.invariant-walk
invariant-walk l =
    Walks l.pools.constants l.store.store l.initial.turns (pairs_of l.pools.constants l.fn.level) l.turns l.level l.outer.items

abbrev pub decreases-walk : goal.decreases-walk
decreases-walk l = 2 * l.turns + length l.outer.items
