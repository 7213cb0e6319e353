use Rattle.std.proofs.Common.{◌≡◌, drop}
use Rattle.t3_ops.specs.Builtins.{best_of}
use Rattle.t3_ops.proofs.builtins.extremes.best.Given as goal

abbrev pub invariant-loop-other : goal.invariant-loop-other
invariant-loop-other l =
    best_of l.greatest l.pools.constants l.store.store (drop l.other-index l.others) l.best
    ≡ best_of l.greatest l.pools.constants l.store.store l.others l.fn.value
