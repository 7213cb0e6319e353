use Rattle.std.proofs.Common.{◌≡◌, ◌∙◌, ◌+◌, ap, sym, subst, max, vec_capacity, arith}
use Rattle.std.specs.FinMap.{len}
use Rattle.t3_undo.specs.Journal.{Held}
use Rattle.t3_store.specs.Value.{units_in}
use Rattle.t3_store.specs.Store.{CountedStore, admit_of}
use Rattle.t3_store.specs.Inner.Shapes.{values}
use Rattle.t3_store.specs.Inner.Store.{marks_of, store_of, IsStore}
use Rattle.t3_store.specs.declared.admit.Admit.TheVariants.{Fits}
use Rattle.t3_store.proofs.Admitted.{fits, no-clash}
use Rattle.t3_store.proofs.Creating.{not-full}
use Rattle.t3_store.proofs.Replaced.{replaced-kept}
use Rattle.t3_store.proofs.Starting.{marks-bare}
use Rattle.t3_store.specs.Inner.Bounded.{HaveFewPlaces}
use Rattle.t3_store.proofs.PlacesKept.{places-replaced}
use Rattle.t3_store.proofs.OwnPlaces.{zero-stamps}
use Rattle.t3_store.proofs.store.Store.replace.Goals as goal

pub invariant_of-self : goal.invariant_of-self
invariant_of-self c =
    record {
      is =
          let units : c.max-self-inside.result ≡ max c.self.inside.writes (units_in c.args.state) =
          c.max-self-inside.ensures ∙ ap (max c.self.inside.writes)
          (c.from.ensures ∙ c.units.ensures.units ∙ ap units_in c.into_map-persistent.ensures.objects) in
          let more : c.max-self-inside-2.result ≡ max c.self.inside.next c.args.next = c.max-self-inside-2.ensures in
          let free = fits c.args.state (store_of c.self.inside.persistent.objects c.self.inside.transient.objects c.self.inside.next
          c.self.inside.next_transient c.self.inside.limits c.self.inside.journal.segments)
          (subst (λ (v : CountedStore). admit_of c.args.state v.store ≡ Fits) (sym c.self.view_is) c.requires.fits) in
          let little = not-full c.self.inside.limits.objects (len c.args.state + len (values c.self.inside.transient.objects))
          c.self.inside.limits.units (units_in c.args.state + units_in (values c.self.inside.transient.objects)) free.1 in
          subst (λ (j : Held). IsStore c.into_map-persistent.result c.self.inside.transient c.max-self-inside-2.result c.self.inside.next_transient
          c.self.inside.limits j c.give_up.new.units.items (vec_capacity c.give_up.new.units) c.max-self-inside.result) (sym c.give_up.ensures.journal)
          (replaced-kept c.self.inside.persistent c.self.inside.transient c.into_map-persistent.result c.args.state c.self.inside.next
          c.self.inside.next_transient c.max-self-inside-2.result c.self.inside.limits c.self.inside.journal c.self.inside.units.items
          c.give_up.new.units.items _ _ c.self.inside.writes c.max-self-inside.result c.self.invariant.is c.into_map-persistent.ensures.objects
          (no-clash c.args.state (values c.self.inside.transient.objects) free.0) c.requires.whole (λ q h. c.requires.below q (omega (arith, more)))
          (omega (arith, more)) (omega (arith, more, c.requires.next, c.self.invariant.is.numbered.next_fits)) c.into_map-persistent.ensures.from_one
          little.0 little.1 c.into_map-persistent.ensures.ticks (zero-stamps c.into_map-persistent.result c.into_map-persistent.ensures.fresh_places) (omega (arith, units)) (omega (arith, units))
          (omega (arith, units, little.1, c.self.invariant.is.bounded.units, c.self.invariant.is.few_writes)) c.give_up.ensures.units c.give_up.ensures.room);
      places = subst (λ (j : Held). HaveFewPlaces c.into_map-persistent.result c.self.inside.transient c.self.inside.limits.records j.segments)
          (sym c.give_up.ensures.journal) (places-replaced c.self.inside.limits.records c.self.inside.persistent c.self.inside.transient _
          c.self.inside.journal.segments c.self.invariant.places c.into_map-persistent.ensures.fresh_places);
    }

pub returns-clause-store : goal.returns-clause-store
returns-clause-store c =
    let units : c.from.result ≡ units_in c.args.state =
    c.from.ensures ∙ c.units.ensures.units ∙ ap units_in c.into_map-persistent.ensures.objects in
    λ i. record {
      store = record {
        persistent = c.into_map-persistent.ensures.objects i;
        transient = (c.self.view_is i).store.transient;
        next = (c.max-self-inside-2.ensures ∙ λ k. max (c.self.view_is k).store.next c.args.next) i;
        next_transient = (c.self.view_is i).store.next_transient;
        limits = (c.self.view_is i).store.limits;
        marks = (ap (λ (h : Held). marks_of c.into_map-persistent.result.objects h.segments) c.give_up.ensures.journal
            ∙ marks-bare c.into_map-persistent.result.objects) i;
      };
      savepoints = (ap (λ (h : Held). h.marks) c.give_up.ensures.journal ∙ λ k. (c.self.view_is k).savepoints) i;
      writes = (c.max-self-inside.ensures ∙ λ k. max (c.self.view_is k).writes (units k)) i;
    }
