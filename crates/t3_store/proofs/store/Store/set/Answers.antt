use Rattle.std.proofs.Common.{◌∙◌, ap, sym, Some, vec_capacity, arith}
use Rattle.t3_undo.specs.Content.{shown}
use Rattle.t3_store.specs.Value.{with_cell, can_have_at}
use Rattle.t3_undo.specs.Units.{cell_units}
use Rattle.t3_store.specs.Store.{set_cell, is_full_with}
use Rattle.t3_store.specs.declared.limits.StoreRefusal.TheVariants as refusals
use Rattle.t3_store.proofs.Changes.{held-persistent, can-persistent, can-transient, noted-changed, noted-kept, transient-kept, ok-not, units-set, written-ok, room-for}
use Rattle.t3_store.proofs.Stamped.{stamped-placed}
use Rattle.t3_store.proofs.ZeroStamps.{all-zero-kept}
use Rattle.t3_store.proofs.PlacesKept.{places-noted, places-transient}
use Rattle.t3_store.proofs.store.Store.set.Goals as goal

pub note-requires : goal.note-requires
note-requires c = record {
  placed = c.in_ok-old.ensures.ok.placed;
  stamped = stamped-placed c.self.inside.journal.marks c.self.inside.next c.self.inside.persistent.places _ c.self.inside.journal.segments
      c.self.invariant.is.sound c.in_ok-old.ensures.stamps c.self.invariant.is.stamped;
}

pub invariant_of-self-then-has : goal.invariant_of-self-then-has
invariant_of-self-then-has c =
    record {
      is =
          let is = c.self.invariant.is in
          let counted = ap (λ s. s.writes) c.self.view_is in
          let view = ap (λ s. s.store) c.self.view_is in
          let can = can-persistent can_have_at _ _ c.args.number c.args.cell view (sym c.has.ensures.value ∙ c.if-has.true) c.requires.can in
          noted-kept _ _ _ c.self.inside.transient c.self.inside.next c.self.inside.next_transient c.self.inside.limits c.self.inside.journal
          _ c.self.inside.units.items (vec_capacity c.self.inside.units) c.self.inside.writes c.args.number c.args.cell
          (with_cell c.args.cell c.args.value) _ is c.in_ok-old.ensures.ok c.note.ensures
          (units-set c.self.inside.persistent c.set.new.objects c.args.number c.args.cell c.args.value _ c.is_full-full.result c.self.inside.limits.units
          c.in_ok-old.ensures.ok can (ok-not c.set.result _ refusals.Full c.in_ok-old.was c.set.ensures.full.1)
          (λ e. let r = room-for _ _ 0 (cell_units c.args.cell) view (ap (λ n. is_full_with 0 n c.args.self.now.store) (sym c.cell_units.ensures) ∙ sym c.is_full-full.ensures ∙ e) in omega arith) is.counted.persistent_units) (omega (arith, counted, c.requires.few));
      places = places-noted c.self.inside.limits.records _ _ _ c.self.inside.transient c.self.inside.journal _ c.args.number c.args.cell _ _
          c.self.invariant.places c.in_ok-old.ensures.ok c.in_ok-old.ensures.placed c.note.ensures;
    }

pub returns-then-has-clause-ok : goal.returns-then-has-clause-ok
returns-then-has-clause-ok c =
    let view = ap (λ s. s.store) c.self.view_is in
    written-ok c.args.self.now.store c.args.number c.args.cell c.args.value _
    (sym (held-persistent _ _ c.args.number c.args.cell view (sym c.has.ensures.value ∙ c.if-has.true)))
    c.is_full-full.result
    (c.is_full-full.ensures ∙ ap (λ n. is_full_with 0 n c.args.self.now.store) c.cell_units.ensures) (ok-not c.set.result _ refusals.Full c.in_ok-old.was c.set.ensures.full.1)
    ∙ ap Some (sym (noted-changed c.self.inside.persistent _ _ c.self.inside.transient.objects c.self.inside.next
    c.self.inside.next_transient c.self.inside.limits c.self.inside.journal _ c.args.number c.args.cell
    (with_cell c.args.cell c.args.value) (shown c.in_ok-old.old) c.in_ok-old.ensures.ok c.note.ensures c.self.invariant.is.records
    (sym c.has.ensures.thing ∙ c.if-has.true)
    ∙ ap (set_cell c.args.number c.args.cell c.args.value) view))

pub invariant_of-self-2 : goal.invariant_of-self-2
invariant_of-self-2 c =
    record {
      is =
          let is = c.self.invariant.is in
          let counted = ap (λ s. s.writes) c.self.view_is in
          let view = ap (λ s. s.store) c.self.view_is in
          let can = can-transient can_have_at _ _ c.args.number c.args.cell view (sym c.has.ensures.value ∙ c.if-has.false) c.requires.can in
          transient-kept c.self.inside.persistent _ _ c.self.inside.next c.self.inside.next_transient c.self.inside.limits c.self.inside.journal
          c.self.inside.units.items (vec_capacity c.self.inside.units) c.self.inside.writes _ _ (with_cell c.args.cell c.args.value) _ is
          c.in_ok-_old.ensures.ok
          (units-set c.self.inside.transient c.set-2.new.objects c.args.number c.args.cell c.args.value _ c.is_full-full.result c.self.inside.limits.units
          c.in_ok-_old.ensures.ok can (ok-not c.set-2.result _ refusals.Full c.in_ok-_old.was c.set-2.ensures.full.1)
          (λ e. let r = room-for _ _ 0 (cell_units c.args.cell) view (ap (λ n. is_full_with 0 n c.args.self.now.store) (sym c.cell_units.ensures) ∙ sym c.is_full-full.ensures ∙ e) in omega arith) is.counted.transient_units)
          (omega (arith, counted, c.requires.few))
          (all-zero-kept c.self.inside.transient.places _ c.in_ok-_old.ensures.stamps is.transient_stamps);
      places = places-transient c.self.inside.limits.records c.self.inside.persistent _ _ c.self.inside.journal.segments _ _ _ _ c.self.invariant.places
          c.in_ok-_old.ensures.ok c.in_ok-_old.ensures.placed;
    }
