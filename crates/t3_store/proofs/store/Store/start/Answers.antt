use Rattle.std.proofs.Common.{◌∙◌, ap, sym, subst, vec_capacity, arith}
use Rattle.t3_undo.specs.Journal.{Held}
use Rattle.t3_store.specs.Value.{units_in}
use Rattle.t3_store.proofs.Starting.{started-kept, started-view}
use Rattle.t3_store.specs.Inner.Bounded.{HaveFewPlaces}
use Rattle.t3_store.proofs.PlacesKept.{places-begun}
use Rattle.t3_store.proofs.OwnPlaces.{zero-stamps}
use Rattle.t3_store.proofs.store.Store.start.Goals as goal

pub invariant_of-result : goal.invariant_of-result
invariant_of-result c =
    record {
      is =
          let first = c.units.ensures.units ∙ ap units_in c.into_map-persistent.ensures.objects in
          let second = c.units-2.ensures.units ∙ ap units_in c.into_map-transient.ensures.objects in
          started-kept c.into_map-persistent.result c.into_map-transient.result c.args.first c.args.passing c.args.next c.args.limits
          c.in_ok-journal.journal c.in_ok-units.units.items (vec_capacity c.in_ok-units.units) _ c.into_map-persistent.ensures.objects
          c.into_map-transient.ensures.objects c.requires.limits c.requires.next.0 c.requires.next.1 c.requires.first c.requires.passing
          c.requires.objects c.requires.units c.in_ok-journal.ensures c.in_ok-units.ensures.items c.in_ok-units.ensures.capacity
          c.into_map-persistent.ensures.from_one c.into_map-transient.ensures.from_one c.into_map-persistent.ensures.ticks
          c.into_map-transient.ensures.ticks (zero-stamps c.into_map-persistent.result c.into_map-persistent.ensures.fresh_places)
          (zero-stamps c.into_map-transient.result c.into_map-transient.ensures.fresh_places) (omega (arith, c.from.ensures, c.from-2.ensures))
          c.requires.apart c.requires.whole c.requires.both;
      places = subst (λ (j : Held). HaveFewPlaces c.into_map-persistent.result c.into_map-transient.result c.args.limits.records j.segments)
          (sym c.in_ok-journal.ensures) (places-begun c.args.limits.records _ _ c.into_map-persistent.ensures.fresh_places c.into_map-transient.ensures.fresh_places);
    }

pub returns-clause-store : goal.returns-clause-store
returns-clause-store c =
    started-view c.into_map-persistent.result c.into_map-transient.result c.args.first c.args.passing c.args.next c.args.limits
    c.in_ok-journal.journal c.into_map-persistent.ensures.objects c.into_map-transient.ensures.objects c.in_ok-journal.ensures
