use Rattle.std.proofs.Common.{◌∙◌, ap, sym, subst, refl, vec_capacity}
use Rattle.t3_undo.specs.Journal.{Held}
use Rattle.t3_undo.specs.Stamps.{AreStamped}
use Rattle.t3_store.specs.Store.{undone, is_held}
use Rattle.t3_store.specs.Inner.Shapes.{values, stamp_at}
use Rattle.t3_store.specs.Inner.Store.{store_of, IsTidyStore}
use Rattle.t3_store.proofs.Marks.{values-undone, marks-undone, held-marks, marks-unheld, unheld}
use Rattle.t3_store.proofs.Validity.{valid-undone}
use Rattle.t3_store.proofs.NoGaps.{gaps-undone}
use Rattle.t3_store.proofs.PlacesKept.{sound-newest, sound-more, places-undone}
use Rattle.t3_store.proofs.Saving.{has-units, popped-units, undone-kept}
use Rattle.t3_store.proofs.store.Store.undo.Goals as goal

pub pop_units-units-requires : goal.pop_units-units-requires
pop_units-units-requires c =
    has-units c.self.inside.persistent.objects c.self.inside.journal.segments c.self.inside.units.items c.in-Some.next
    (sym c.newest_next.ensures ∙ c.in-Some.is) c.self.invariant.is.counted.copies

pub undo-requires-clause-units : goal.undo-requires-clause-units
undo-requires-clause-units c =
    popped-units c.self.inside.persistent.objects c.self.inside.journal.segments c.self.inside.units.items c.pop_units-units.new.units.items
    c.in-Some.next c.pop_units-units.result (sym c.newest_next.ensures ∙ c.in-Some.is) c.self.invariant.is.counted.copies
    c.pop_units-units.ensures.units

pub undo-requires-clause-valid : goal.undo-requires-clause-valid
undo-requires-clause-valid c =
    valid-undone c.self.inside.journal.segments c.self.inside.persistent.objects c.in-Some.next (sym c.newest_next.ensures ∙ c.in-Some.is)
    c.self.invariant.is.kinds.valid

pub undo-requires-clause-sound : goal.undo-requires-clause-sound
undo-requires-clause-sound c =
    sound-newest c.self.inside.persistent.places c.self.inside.next c.in-Some.next c.self.inside.journal.segments
    (sym c.newest_next.ensures ∙ c.in-Some.is) c.self.invariant.is.sound

pub undo-requires-clause-gaps : goal.undo-requires-clause-gaps
undo-requires-clause-gaps c = gaps-undone c.self.inside.journal.segments c.self.inside.persistent.objects c.self.invariant.places.gaps

pub invariant_of-self : goal.invariant_of-self
invariant_of-self c =
    subst (λ (j : Held). IsTidyStore c.undo.new.self c.self.inside.transient c.self.inside.next c.self.inside.next_transient
    c.self.inside.limits j c.pop_units-units.new.units.items (vec_capacity c.pop_units-units.new.units) c.self.inside.writes)
    (sym c.undo.ensures.journal) (record {
      is = undone-kept c.self.inside.persistent c.self.inside.transient c.undo.new.self c.self.inside.next c.self.inside.next_transient
          c.self.inside.limits c.self.inside.journal c.self.inside.units.items c.pop_units-units.new.units.items _ _ c.self.inside.writes
          c.pop_units-units.result c.in-Some.next c.self.invariant.is (sym c.newest_next.ensures ∙ c.in-Some.is) c.pop_units-units.ensures.units
          c.pop_units-units.ensures.few c.pop_units-units.ensures.room c.undo.ensures.objects
          (sound-more c.self.inside.persistent.places c.self.inside.next c.in-Some.next c.self.inside.journal.segments _
          (sym c.newest_next.ensures ∙ c.in-Some.is) c.self.invariant.is.sound refl c.undo.new.self.places c.undo.ensures.sound)
          (subst (λ (j : Held). AreStamped j.marks (stamp_at c.undo.new.self.places) j.segments) c.undo.ensures.journal c.undo.ensures.stamped)
          c.undo.ensures.ticks c.undo.ensures.fewer;
      places = places-undone c.self.inside.limits.records c.self.inside.persistent c.self.inside.transient c.undo.new.self
          c.self.inside.journal.segments c.self.invariant.places c.undo.ensures.objects c.undo.ensures.bounded;
    })

pub returns-in-Some-clause-store : goal.returns-in-Some-clause-store
returns-in-Some-clause-store c = λ i. record {
  store = ((λ k. store_of (c.undo.ensures.objects k) c.self.inside.transient.objects c.self.inside.next
      c.self.inside.next_transient c.self.inside.limits (c.undo.ensures.journal k).segments)
      ∙ (λ k. record {
        persistent = values-undone c.self.inside.journal.segments c.self.inside.persistent.objects k;
        transient = values c.self.inside.transient.objects;
        next = c.self.inside.next;
        next_transient = c.self.inside.next_transient;
        limits = c.self.inside.limits;
        marks = marks-undone c.self.inside.journal.segments c.self.inside.persistent.objects k;
      })
      ∙ ap undone (ap (λ s. s.store) c.self.view_is)) i;
  savepoints = (ap (λ (j : Held). j.marks) c.undo.ensures.journal ∙ λ k. (c.self.view_is k).savepoints) i;
  writes = (c.self.view_is i).writes;
}

pub returns-in-Some-clause-answer : goal.returns-in-Some-clause-answer
returns-in-Some-clause-answer c =
    sym (held-marks c.self.inside.journal.segments c.self.inside.persistent.objects c.in-Some.next
    (sym c.newest_next.ensures ∙ c.in-Some.is))
    ∙ λ i. is_held (c.self.view_is i).store.marks

pub returns-in-None-clause-store : goal.returns-in-None-clause-store
returns-in-None-clause-store c =
    let none = sym (λ i. (c.self.view_is i).store.marks)
    ∙ marks-unheld c.self.inside.journal.segments c.self.inside.persistent.objects (sym c.newest_next.ensures ∙ c.in-None.is) in
    λ i. record c.args.self.now { store = unheld c.args.self.now.store none i }

pub returns-in-None-clause-answer : goal.returns-in-None-clause-answer
returns-in-None-clause-answer c =
    sym (ap is_held (sym (λ i. (c.self.view_is i).store.marks)
    ∙ marks-unheld c.self.inside.journal.segments c.self.inside.persistent.objects (sym c.newest_next.ensures ∙ c.in-None.is)))
