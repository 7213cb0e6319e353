use Rattle.std.proofs.Common.{◌∙◌, ◌+◌, ap, sym, subst, is_some, vec_capacity, arith}
use Rattle.t3_undo.specs.Content.{shown}
use Rattle.t3_undo.specs.Journal.{Held}
use Rattle.t3_store.specs.Value.{with_cell}
use Rattle.t3_store.specs.Store.{set_cell}
use Rattle.t3_undo.specs.Stamps.{AreStamped}
use Rattle.t3_store.specs.Inner.Shapes.{stamp_at, HaveZeroStamps}
use Rattle.t3_store.proofs.Changes.{few-ticks, held-persistent, held-transient, noted-changed, noted-kept, transient-kept, units-overwritten}
use Rattle.t3_store.proofs.PlacesKept.{places-noted, places-transient}
use Rattle.t3_store.proofs.store.Store.overwrite.Goals as goal

pub overwrite-old-requires-clause-present : goal.overwrite-old-requires-clause-present
overwrite-old-requires-clause-present c =
    sym (ap is_some (held-persistent _ _ c.args.number c.args.cell (ap (λ s. s.store) c.self.view_is) (sym c.has.ensures.value ∙ c.if-has.true)))
    ∙ c.requires.present

pub overwrite-old-requires-clause-few : goal.overwrite-old-requires-clause-few
overwrite-old-requires-clause-few c =
    few-ticks c.self.inside.persistent.ticks c.self.inside.writes c.self.invariant.is.kinds.persistent_ticks
    (let counted = ap (λ s. s.writes) c.self.view_is in omega (arith, counted, c.requires.few))

pub overwrite-old-requires-2-clause-few : goal.overwrite-old-requires-2-clause-few
overwrite-old-requires-2-clause-few c =
    few-ticks c.self.inside.transient.ticks c.self.inside.writes c.self.invariant.is.kinds.transient_ticks
    (let counted = ap (λ s. s.writes) c.self.view_is in omega (arith, counted, c.requires.few))

pub note-requires : goal.note-requires
note-requires c = record {
  placed = c.overwrite-old.ensures.written.placed;
  stamped = subst (λ places. AreStamped c.self.inside.journal.marks (stamp_at places) c.self.inside.journal.segments)
      (sym c.overwrite-old.ensures.places) c.self.invariant.is.stamped;
}

pub invariant_of-self : goal.invariant_of-self
invariant_of-self c =
    record {
      is =
          let is = c.self.invariant.is in
          let present = sym (ap is_some (held-persistent _ _ c.args.number c.args.cell (ap (λ s. s.store) c.self.view_is)
          (sym c.has.ensures.value ∙ c.if-has.true))) ∙ c.requires.present in
          let same = units-overwritten _ _ _ _ c.args.value _ c.overwrite-old.ensures.written present in
          let counted = ap (λ s. s.writes) c.self.view_is in
          noted-kept _ _ _ c.self.inside.transient c.self.inside.next c.self.inside.next_transient c.self.inside.limits c.self.inside.journal
          _ c.self.inside.units.items (vec_capacity c.self.inside.units) c.self.inside.writes c.args.number c.args.cell
          (with_cell c.args.cell c.args.value) _ is c.overwrite-old.ensures.written c.note.ensures (omega (arith, same, is.counted.persistent_units)) (omega (arith, counted, c.requires.few));
      places = places-noted c.self.inside.limits.records _ _ _ c.self.inside.transient c.self.inside.journal _ c.args.number c.args.cell _ _
          c.self.invariant.places c.overwrite-old.ensures.written c.overwrite-old.ensures.placed c.note.ensures;
    }

pub returns-then-has : goal.returns-then-has
returns-then-has c = λ i. record {
  store = (noted-changed c.self.inside.persistent _ _ c.self.inside.transient.objects c.self.inside.next
      c.self.inside.next_transient c.self.inside.limits c.self.inside.journal _ c.args.number c.args.cell (with_cell c.args.cell c.args.value)
      (shown c.overwrite-old.result) c.overwrite-old.ensures.written c.note.ensures c.self.invariant.is.records
      (sym c.has.ensures.thing ∙ c.if-has.true)
      ∙ λ k. set_cell c.args.number c.args.cell c.args.value (c.self.view_is k).store) i;
  savepoints = (ap (λ (j : Held). j.marks) c.note.ensures.recorded ∙ λ k. (c.self.view_is k).savepoints) i;
  writes = (c.self.view_is i).writes + 1;
}

pub invariant_of-self-2 : goal.invariant_of-self-2
invariant_of-self-2 c =
    record {
      is =
          let is = c.self.invariant.is in
          let present = sym (ap is_some (held-transient _ _ c.args.number c.args.cell (ap (λ s. s.store) c.self.view_is)
          (sym c.has.ensures.value ∙ c.if-has.false))) ∙ c.requires.present in
          let same = units-overwritten _ _ _ _ c.args.value _ c.overwrite-old-2.ensures.written present in
          let counted = ap (λ s. s.writes) c.self.view_is in
          transient-kept c.self.inside.persistent _ _ c.self.inside.next c.self.inside.next_transient c.self.inside.limits c.self.inside.journal
          c.self.inside.units.items (vec_capacity c.self.inside.units) c.self.inside.writes _ _ (with_cell c.args.cell c.args.value) _ is
          c.overwrite-old-2.ensures.written (omega (arith, same, is.counted.transient_units)) (omega (arith, counted, c.requires.few))
          (subst HaveZeroStamps (sym c.overwrite-old-2.ensures.places) is.transient_stamps);
      places = places-transient c.self.inside.limits.records c.self.inside.persistent _ _ c.self.inside.journal.segments _ _ _ _ c.self.invariant.places
          c.overwrite-old-2.ensures.written c.overwrite-old-2.ensures.placed;
    }
