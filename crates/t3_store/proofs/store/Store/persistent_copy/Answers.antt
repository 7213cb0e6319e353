use Rattle.std.proofs.Common.{arith}
use Rattle.t3_store.proofs.Replaced.{persistent-copied}
use Rattle.t3_store.proofs.store.Store.persistent_copy.Goals as goal

pub of-requires : goal.of-requires
of-requires c =
    persistent-copied c.self.inside.persistent c.in_ok-objects.objects c.self.inside.next c.in_ok-objects.ensures.values
    c.self.invariant.is.numbered.persistent_from_one c.self.invariant.is.numbered.persistent_below c.self.invariant.is.numbered.next_fits
    (omega (arith, c.self.invariant.is.counted.objects, c.self.invariant.is.bounded.objects))
    (omega (arith, c.self.invariant.is.counted.persistent_units, c.self.invariant.is.bounded.units)) c.in_ok-objects.ensures.ticks
    c.in_ok-objects.ensures.fresh_places
