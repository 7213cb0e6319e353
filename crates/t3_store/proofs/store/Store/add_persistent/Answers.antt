use Rattle.std.proofs.Common.{◌+◌, ◌∙◌, ap, sym, false, vec_capacity, nat_le, ◌^◌, leb-false, arith}
use Rattle.std.specs.FinMap.{get}
use Rattle.t3_store.specs.Store.{value_at, with_object}
use Rattle.t3_store.specs.Inner.Shapes.{values, thing_of, places_of, tick_of, value_of}
use Rattle.t3_store.specs.Inner.Store.{store_of}
use Rattle.t3_store.proofs.MapValues.{values-insert}
use Rattle.std.specs.Prelude.{option_and_then}
use Rattle.t3_store.specs.Value.{supers_of}
use Rattle.t3_store.specs.Whole.{supers_in}
use Rattle.t3_store.specs.Inner.Whole.{supers_from}
use Rattle.t3_store.proofs.WholeStarted.{has-supers}
use Rattle.t3_store.proofs.WholeWritten.{supers-values}
use Rattle.t3_store.proofs.Changes.{room-for, neither}
use Rattle.t3_store.proofs.Creating.{persistent-created, marks-created, value-none}
use Rattle.t3_store.proofs.PlacesKept.{places-created}
use Rattle.t3_store.proofs.store.Store.add_persistent.Goals as goal

pub invariant_of-self-2 : goal.invariant_of-self-2
invariant_of-self-2 c =
    record {
      is =
          let view = ap (λ s. s.store) c.self.view_is in
          let room = room-for _ _ 1 c.args.units view c.requires.room in
          let counts = c.requires.units in
          let less = leb-false _ _ ((λ i. nat_le (2 ^ 31) (c.self.view_is i).store.next) ∙ c.requires.number) in
          persistent-created c.self.inside.persistent c.self.inside.transient c.add.new.self c.self.inside.next c.self.inside.next_transient
          c.self.inside.limits c.self.inside.journal c.self.inside.units.items (vec_capacity c.self.inside.units) c.self.inside.writes
          (thing_of c.args.object) (places_of c.args.object) (tick_of c.args.object) c.self.invariant.is (omega arith) (omega arith) (omega arith)
          (has-supers (supers_in c.args.self.now.store.persistent) (supers_from c.self.inside.persistent.objects) (thing_of c.args.object)
          (λ q. (λ i. option_and_then supers_of (get (sym view i).persistent q)) ∙ supers-values c.self.inside.persistent.objects q)
          c.requires.supers) c.requires.tick c.requires.fresh_places c.in_ok-add.ensures.ok;
      places = places-created c.self.inside.limits.records c.self.inside.persistent c.self.inside.transient _ c.self.inside.journal.segments c.self.inside.next
          _ _ _ c.self.invariant.places c.self.invariant.is.sound c.requires.fresh_places c.in_ok-add.ensures.ok;
    }

pub returns-clause-fresh : goal.returns-clause-fresh
returns-clause-fresh c =
    ap (λ s. value_at s c.self.inside.next) (sym (ap (λ s. s.store) c.self.view_is))
    ∙ neither _ _ (value-none c.self.inside.persistent.objects c.self.inside.next
    (c.self.invariant.is.numbered.persistent_below c.self.inside.next (omega arith)))
    (value-none c.self.inside.transient.objects c.self.inside.next (c.self.invariant.is.numbered.transient_low c.self.inside.next (omega arith)
    (leb-false _ _ ((λ i. nat_le (2 ^ 31) (c.self.view_is i).store.next) ∙ c.requires.number))))

pub returns-clause-ok : goal.returns-clause-ok
returns-clause-ok c =
    let view = ap (λ s. s.store) c.self.view_is in
    λ i. record {
      store = ((λ k. store_of (c.in_ok-add.ensures.ok k).objects c.self.inside.transient.objects (c.self.inside.next + 1)
          c.self.inside.next_transient c.self.inside.limits c.self.inside.journal.segments)
          ∙ (λ k. record {
            persistent = values-insert c.self.inside.persistent.objects c.self.inside.next (thing_of c.args.object) k;
            transient = values c.self.inside.transient.objects;
            next = c.self.inside.next + 1;
            next_transient = c.self.inside.next_transient;
            limits = c.self.inside.limits;
            marks = marks-created c.self.inside.persistent c.self.inside.next c.self.inside.journal.segments (thing_of c.args.object)
                c.self.invariant.is.sound k;
          })
          ∙ ap (with_object (value_of (thing_of c.args.object)) false) view) i;
      savepoints = (c.self.view_is i).savepoints;
      writes = (c.self.view_is i).writes;
    }
