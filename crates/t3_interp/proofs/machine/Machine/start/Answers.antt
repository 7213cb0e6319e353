use Rattle.std.proofs.Common.{sym, subst}
use Rattle.t3_interp.specs.declared.machine.Whole.{Whole}
use Rattle.t3_interp.specs.Inner.Acting.{IsBetweenSteps, IsGoodRun}
use Rattle.t3_interp.specs.Inner.DecodeCache.{IsCacheOf}
use Rattle.t3_interp.proofs.machine.Machine.start.Goals as goal

pub invariant_of-result : goal.invariant_of-result
invariant_of-result c =
    subst
    (λ (whole : Whole). IsBetweenSteps whole.running × IsCacheOf whole.program.pools.code whole.cache
    × IsGoodRun whole.program whole.running) (sym c.in_ok-new.ensures.ok)
    (c.in_ok-running.ensures.between, c.in_ok-cache.ensures c.args.program.pools.code, c.in_ok-running.ensures.good)
