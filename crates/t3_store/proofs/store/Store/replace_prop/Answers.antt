use Rattle.std.proofs.Common.{◌+◌, ◌∙◌, ap, sym, subst, is_some, vec_capacity, arith}
use Rattle.t3_undo.specs.Content.{shown}
use Rattle.t3_undo.specs.Journal.{Held}
use Rattle.t3_undo.specs.Stamps.{AreStamped}
use Rattle.t3_undo.specs.declared.cell.Cell.TheVariants as cells
use Rattle.t3_store.specs.Value.{with_cell}
use Rattle.t3_store.specs.Store.{set_cell}
use Rattle.t3_store.specs.Inner.Shapes.{Stored, values, stamp_at, HaveZeroStamps}
use Rattle.t3_store.specs.Inner.Store.{store_of, marks_of, IsStore}
use Rattle.t3_store.proofs.Changes.{held-transient, noted-changed, noted-kept, transient-kept, units-overwritten}
use Rattle.t3_store.proofs.MapValues.{none-of}
use Rattle.t3_store.proofs.Replacing.{held-there, object-there, not-persistent, transient-set}
use Rattle.t3_store.proofs.PlacesKept.{places-noted, places-transient}
use Rattle.t3_store.specs.Inner.Bounded.{HaveFewPlaces}
use Rattle.t3_store.proofs.store.Store.replace_prop.Goals as goal

pub note-requires : goal.note-requires
note-requires c = record {
  placed = (c.replace_prop-old.ensures.written (sym c.is_present.ensures ∙ c.if-is_present.true)).placed;
  stamped = subst (λ places. AreStamped c.self.inside.journal.marks (stamp_at places) c.self.inside.journal.segments)
      (sym c.replace_prop-old.ensures.places) c.self.invariant.is.stamped;
}

pub invariant_of-self : goal.invariant_of-self
invariant_of-self c =
    record {
      is =
          let is = c.self.invariant.is in
          let some = sym c.is_present.ensures ∙ c.if-is_present.true in
          let old = c.replace_prop-old.ensures in
          let written = old.written some in
          let same = units-overwritten _ _ _ _ c.args.value _ written (held-there (cells.Prop c.args.property) _ _ old.value (old.written some).formed some) in
          let counted = ap (λ s. s.writes) c.self.view_is in
          noted-kept _ _ _ c.self.inside.transient c.self.inside.next c.self.inside.next_transient c.self.inside.limits c.self.inside.journal
          _ c.self.inside.units.items (vec_capacity c.self.inside.units) c.self.inside.writes _ _
          (with_cell (cells.Prop c.args.property) c.args.value) _ is written c.note.ensures (omega (arith, same, is.counted.persistent_units)) (omega (arith, counted, c.requires));
      places = places-noted c.self.inside.limits.records _ _ _ c.self.inside.transient c.self.inside.journal _ _ _ _ _ c.self.invariant.places
          (c.replace_prop-old.ensures.written (sym c.is_present.ensures ∙ c.if-is_present.true))
          (c.replace_prop-old.ensures.placed (sym c.is_present.ensures ∙ c.if-is_present.true)) c.note.ensures;
    }

pub returns-then-is_present-clause-replaced : goal.returns-then-is_present-clause-replaced
returns-then-is_present-clause-replaced c _ =
    let cell = cells.Prop c.args.property in
    let some = sym c.is_present.ensures ∙ c.if-is_present.true in
    let old = c.replace_prop-old.ensures in
    let there = object-there c.self.inside.persistent.objects c.args.number cell (held-there (cells.Prop c.args.property) _ _ old.value (old.written some).formed some) in
    λ i. record {
      store = (noted-changed c.self.inside.persistent _ _ c.self.inside.transient.objects c.self.inside.next
          c.self.inside.next_transient c.self.inside.limits c.self.inside.journal _ c.args.number cell (with_cell cell c.args.value)
          (shown c.replace_prop-old.result) (old.written some) c.note.ensures c.self.invariant.is.records there
          ∙ λ k. set_cell c.args.number cell c.args.value (c.self.view_is k).store) i;
      savepoints = (ap (λ (j : Held). j.marks) c.note.ensures.recorded ∙ λ k. (c.self.view_is k).savepoints) i;
      writes = (c.self.view_is i).writes + 1;
    }

pub invariant_of-self-then-is_present-2 : goal.invariant_of-self-then-is_present-2
invariant_of-self-then-is_present-2 c =
    record {
      is =
          let is = c.self.invariant.is in
          let some = sym c.is_present-2.ensures ∙ c.if-is_present-2.true in
          let old = c.replace_prop-old-2.ensures in
          let written = old.written some in
          let same = units-overwritten _ _ _ _ c.args.value _ written (held-there (cells.Prop c.args.property) _ _ old.value (old.written some).formed some) in
          let counted = ap (λ s. s.writes) c.self.view_is in
          let left = c.replace_prop-old.ensures.kept (none-of _ (sym c.is_present.ensures ∙ c.if-is_present.false)) in
          subst (λ (p : Stored). IsStore p c.replace_prop-old-2.new.self c.self.inside.next c.self.inside.next_transient
          c.self.inside.limits c.self.inside.journal c.self.inside.units.items (vec_capacity c.self.inside.units) (c.self.inside.writes + 1)) (sym left)
          (transient-kept c.self.inside.persistent _ _ c.self.inside.next c.self.inside.next_transient c.self.inside.limits c.self.inside.journal
          c.self.inside.units.items (vec_capacity c.self.inside.units) c.self.inside.writes _ _ (with_cell (cells.Prop c.args.property) c.args.value) _ is
          written (omega (arith, same, is.counted.transient_units)) (omega (arith, counted, c.requires))
          (subst HaveZeroStamps (sym c.replace_prop-old-2.ensures.places) is.transient_stamps));
      places = subst (λ (p : Stored). HaveFewPlaces p c.replace_prop-old-2.new.self c.self.inside.limits.records c.self.inside.journal.segments)
          (sym (c.replace_prop-old.ensures.kept (none-of _ (sym c.is_present.ensures ∙ c.if-is_present.false))))
          (places-transient c.self.inside.limits.records c.self.inside.persistent _ _ c.self.inside.journal.segments _ _ _ _ c.self.invariant.places
          (c.replace_prop-old-2.ensures.written (sym c.is_present-2.ensures ∙ c.if-is_present-2.true))
          (c.replace_prop-old-2.ensures.placed (sym c.is_present-2.ensures ∙ c.if-is_present-2.true)));
    }

pub returns-then-is_present-2-clause-answer : goal.returns-then-is_present-2-clause-answer
returns-then-is_present-2-clause-answer c =
    let cell = cells.Prop c.args.property in
    let held = (let some = sym c.is_present-2.ensures ∙ c.if-is_present-2.true in
    held-there cell _ _ c.replace_prop-old-2.ensures.value (c.replace_prop-old-2.ensures.written some).formed some) in
    let gone = not-persistent c.self.inside.persistent.objects c.self.inside.transient.objects c.self.inside.next c.self.inside.next_transient
    c.args.number cell c.self.invariant.is.numbered held in
    sym (ap is_some (held-transient _ _ c.args.number cell (ap (λ s. s.store) c.self.view_is) gone) ∙ held)

pub returns-then-is_present-2-clause-replaced : goal.returns-then-is_present-2-clause-replaced
returns-then-is_present-2-clause-replaced c _ =
    let cell = cells.Prop c.args.property in
    let some = sym c.is_present-2.ensures ∙ c.if-is_present-2.true in
    let held = held-there cell _ _ c.replace_prop-old-2.ensures.value (c.replace_prop-old-2.ensures.written some).formed some in
    let gone = not-persistent c.self.inside.persistent.objects c.self.inside.transient.objects c.self.inside.next c.self.inside.next_transient
    c.args.number cell c.self.invariant.is.numbered held in
    let left = c.replace_prop-old.ensures.kept (none-of _ (sym c.is_present.ensures ∙ c.if-is_present.false)) in
    let set = (c.replace_prop-old-2.ensures.written some).values in
    λ i. record {
      store = ((λ k. record {
        persistent = values (left k).objects;
        transient = set k;
        next = c.self.inside.next;
        next_transient = c.self.inside.next_transient;
        limits = c.self.inside.limits;
        marks = marks_of (left k).objects c.self.inside.journal.segments;
      })
          ∙ transient-set (store_of c.self.inside.persistent.objects c.self.inside.transient.objects c.self.inside.next
          c.self.inside.next_transient c.self.inside.limits c.self.inside.journal.segments) c.args.number cell c.args.value gone
          ∙ λ k. set_cell c.args.number cell c.args.value (c.self.view_is k).store) i;
      savepoints = (c.self.view_is i).savepoints;
      writes = (c.self.view_is i).writes + 1;
    }
