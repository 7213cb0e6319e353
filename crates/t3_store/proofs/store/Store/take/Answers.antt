use Rattle.std.proofs.Common.{◌+◌, ◌-◌, ◌^◌, ◌∙◌, ap, sym, subst, is_some, not, vec_capacity, arith}
use Rattle.t3_undo.specs.Content.{shown}
use Rattle.t3_undo.specs.Journal.{Held}
use Rattle.t3_store.specs.Value.{without_cell, can_lose_at}
use Rattle.t3_store.specs.Store.{StoreValue, noted, with_value}
use Rattle.t3_undo.specs.Stamps.{AreStamped}
use Rattle.t3_store.specs.Inner.Shapes.{stamp_at, HaveZeroStamps}
use Rattle.t3_store.proofs.Changes.{writes-kept, can-persistent, can-transient, held-persistent, held-transient, noted-changed, noted-kept, transient-kept, units-taken, taken-some}
use Rattle.t3_store.specs.Inner.Bounded.{HaveNoGaps}
use Rattle.t3_store.specs.Inner.Store.{store_of}
use Rattle.t3_store.proofs.PlacesKept.{others-noted, gaps-written, persistent-purged, transient-purged, places-taken}
use Rattle.t3_store.proofs.store.Store.take.Goals as goal

pub note-requires : goal.note-requires
note-requires c = record {
  placed = c.take-old.ensures.written.placed;
  stamped = subst (λ places. AreStamped c.self.inside.journal.marks (stamp_at places) c.self.inside.journal.segments)
      (sym c.take-old.ensures.places) c.self.invariant.is.stamped;
}

pub tidy-requires : goal.tidy-requires
tidy-requires c = record {
  limit = ap (λ (j : Held). j.record_limit) c.note.ensures.recorded ∙ c.self.invariant.is.records;
  stamped = c.note.ensures.stamped;
  others = others-noted c.self.inside.limits.records _ _ _ c.self.inside.journal _ c.args.number c.args.cell _ _ c.take-old.ensures.written
      c.take-old.ensures.places c.note.ensures c.self.invariant.places.few;
  gaps = gaps-written _ _ _ c.self.inside.journal _ c.args.number c.args.cell _ _ c.take-old.ensures.written c.note.ensures
      c.self.invariant.places.gaps;
}

pub invariant_of-self-then-has : goal.invariant_of-self-then-has
invariant_of-self-then-has c =
    record {
      is = persistent-purged _ c.self.inside.transient _ c.self.inside.next c.self.inside.next_transient c.self.inside.limits c.note.new.journal
          c.self.inside.units.items (vec_capacity c.self.inside.units) (c.self.inside.writes + 1) (
          let is = c.self.invariant.is in
          let counted = ap (λ s. s.writes) c.self.view_is in
          let some = sym (ap is_some c.get.ensures) ∙ c.is_none.ensures ∙ ap not c.if-is_none.false in
          let present = sym (ap is_some (held-persistent _ _ c.args.number c.args.cell (ap (λ s. s.store) c.self.view_is)
          (sym c.has.ensures.value ∙ c.if-has.true))) ∙ some in
          let can = can-persistent can_lose_at _ _ c.args.number c.args.cell (ap (λ s. s.store) c.self.view_is)
          (sym c.has.ensures.value ∙ c.if-has.true) c.requires.can in
          let less = units-taken _ _ _ _ _ c.take-old.ensures.written present can in
          noted-kept _ _ _ c.self.inside.transient c.self.inside.next c.self.inside.next_transient c.self.inside.limits c.self.inside.journal
          _ c.self.inside.units.items (vec_capacity c.self.inside.units) c.self.inside.writes c.args.number c.args.cell
          (without_cell c.args.cell) _ is c.take-old.ensures.written c.note.ensures (omega (arith, less, is.counted.persistent_units)) (omega (arith, counted, c.requires.few))) c.tidy.ensures.purged;
      places = record {
        gaps = subst (λ m. HaveNoGaps m c.note.new.journal.segments) (sym c.tidy.ensures.purged.objects)
            (gaps-written _ _ _ c.self.inside.journal _ c.args.number c.args.cell _ _ c.take-old.ensures.written c.note.ensures
            c.self.invariant.places.gaps);
        few = c.tidy.ensures.bounded;
        few_transient = c.self.invariant.places.few_transient;
      };
    }

pub returns-then-has : goal.returns-then-has
returns-then-has c =
    let view = ap (λ s. s.store) c.self.view_is in
    let some = sym (ap is_some c.get.ensures) ∙ c.is_none.ensures ∙ ap not c.if-is_none.false in
    λ i. record {
      store = ((λ k. store_of (c.tidy.ensures.purged.objects k) c.self.inside.transient.objects c.self.inside.next
          c.self.inside.next_transient c.self.inside.limits c.note.new.journal.segments)
          ∙ noted-changed c.self.inside.persistent _ _ c.self.inside.transient.objects c.self.inside.next
          c.self.inside.next_transient c.self.inside.limits c.self.inside.journal _ c.args.number c.args.cell (without_cell c.args.cell)
          (shown c.take-old.result) c.take-old.ensures.written c.note.ensures c.self.invariant.is.records
          (sym c.has.ensures.thing ∙ c.if-has.true)
          ∙ ap (λ (s : StoreValue). with_value c.args.number (without_cell c.args.cell) (noted c.args.number c.args.cell s)) view
          ∙ sym (taken-some c.args.self.now.store c.args.number c.args.cell some)) i;
      savepoints = (ap (λ (j : Held). j.marks) c.note.ensures.recorded ∙ λ k. (c.self.view_is k).savepoints) i;
      writes = (c.self.view_is i).writes + 1;
    }

pub invariant_of-self-2 : goal.invariant_of-self-2
invariant_of-self-2 c =
    record {
      is = transient-purged c.self.inside.limits.records (2 ^ 64 - 1) c.args.number c.self.inside.persistent _ _ c.self.inside.next
          c.self.inside.next_transient c.self.inside.limits c.self.inside.journal c.self.inside.units.items (vec_capacity c.self.inside.units)
          (c.self.inside.writes + 1) (omega arith) (
          let is = c.self.invariant.is in
          let counted = ap (λ s. s.writes) c.self.view_is in
          let some = sym (ap is_some c.get.ensures) ∙ c.is_none.ensures ∙ ap not c.if-is_none.false in
          let present = sym (ap is_some (held-transient _ _ c.args.number c.args.cell (ap (λ s. s.store) c.self.view_is)
          (sym c.has.ensures.value ∙ c.if-has.false))) ∙ some in
          let can = can-transient can_lose_at _ _ c.args.number c.args.cell (ap (λ s. s.store) c.self.view_is)
          (sym c.has.ensures.value ∙ c.if-has.false) c.requires.can in
          let less = units-taken _ _ _ _ _ c.take-old-2.ensures.written present can in
          transient-kept c.self.inside.persistent _ _ c.self.inside.next c.self.inside.next_transient c.self.inside.limits c.self.inside.journal
          c.self.inside.units.items (vec_capacity c.self.inside.units) c.self.inside.writes _ _ (without_cell c.args.cell) _ is
          c.take-old-2.ensures.written (omega (arith, less, is.counted.transient_units)) (omega (arith, counted, c.requires.few))
          (subst HaveZeroStamps (sym c.take-old-2.ensures.places) is.transient_stamps)) c.tidy-2.ensures.tidied;
      places = places-taken c.self.inside.limits.records (2 ^ 64 - 1) c.self.inside.persistent c.self.inside.transient _ _
          c.self.inside.journal.segments c.args.number c.args.cell _ _ (omega arith) c.self.invariant.places c.take-old-2.ensures.written
          c.take-old-2.ensures.places (subst HaveZeroStamps (sym c.take-old-2.ensures.places) c.self.invariant.is.transient_stamps)
          c.tidy-2.ensures.valid c.tidy-2.ensures.tidied;
    }

pub invariant_of-self : goal.invariant_of-self
invariant_of-self c = record {
  is =
      let counted = ap (λ s. s.writes) c.self.view_is in
      writes-kept c.self.inside.persistent c.self.inside.transient c.self.inside.next c.self.inside.next_transient c.self.inside.limits
      c.self.inside.journal c.self.inside.units.items (vec_capacity c.self.inside.units) c.self.inside.writes c.self.invariant.is
      (omega (arith, counted, c.requires.few));
  places = c.self.invariant.places;
}
