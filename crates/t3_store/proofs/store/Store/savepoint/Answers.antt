use Rattle.std.proofs.Common.{◌+◌, ◌-◌, ◌∙◌, ap, sym, subst, take, vec_capacity, [], ◌∷◌}
use Rattle.t3_undo.specs.Journal.{Held}
use Rattle.t3_store.specs.Store.{saved}
use Rattle.t3_store.specs.Inner.Shapes.{values}
use Rattle.t3_store.specs.Inner.Store.{store_of, marks_of, IsStore}
use Rattle.t3_store.proofs.Marks.{marks-saved, marks-take}
use Rattle.t3_store.proofs.Saving.{saved-kept}
use Rattle.t3_store.specs.Inner.Bounded.{HaveFewPlaces}
use Rattle.t3_store.proofs.PlacesKept.{places-saved}
use Rattle.t3_store.proofs.store.Store.savepoint.Goals as goal

pub invariant_of-self : goal.invariant_of-self
invariant_of-self c =
    record {
      is =
          subst (λ (j : Held). IsStore c.self.inside.persistent c.self.inside.transient c.self.inside.next c.self.inside.next_transient
          c.self.inside.limits j c.push_units.new.units.items (vec_capacity c.push_units.new.units) c.self.inside.writes) (sym c.mark.ensures)
          (saved-kept c.self.inside.persistent c.self.inside.transient c.self.inside.next c.self.inside.next_transient c.self.inside.limits
          c.self.inside.journal c.self.inside.units.items c.push_units.new.units.items _ _ c.self.inside.writes c.units.result c.self.invariant.is
          c.units.ensures.valid c.units.ensures.units c.push_units.ensures.units c.push_units.ensures.few c.push_units.ensures.room);
      places = subst (λ (j : Held). HaveFewPlaces c.self.inside.persistent c.self.inside.transient c.self.inside.limits.records j.segments) (sym c.mark.ensures)
          (places-saved c.self.inside.limits.records c.self.inside.persistent c.self.inside.transient c.self.inside.journal.segments _ c.self.inside.next
          _ c.self.invariant.places c.self.invariant.is.numbered.persistent_below);
    }

pub returns : goal.returns
returns c = λ i. record {
  store = (ap (λ (j : Held). store_of c.self.inside.persistent.objects c.self.inside.transient.objects c.self.inside.next
      c.self.inside.next_transient c.self.inside.limits j.segments) c.mark.ensures
      ∙ (λ k. record {
        persistent = values c.self.inside.persistent.objects;
        transient = values c.self.inside.transient.objects;
        next = c.self.inside.next;
        next_transient = c.self.inside.next_transient;
        limits = c.self.inside.limits;
        marks = (marks-saved (c.self.inside.journal.marks + 1) c.self.inside.next
            (take (c.self.inside.journal.mark_limit - 1) c.self.inside.journal.segments)
            c.self.inside.persistent.objects c.self.invariant.is.numbered.persistent_below
            ∙ (λ l. record { copy = values c.self.inside.persistent.objects; next = c.self.inside.next; changed = [] }
            ∷ marks-take (c.self.inside.journal.mark_limit - 1) c.self.inside.journal.segments c.self.inside.persistent.objects l)
            ∙ λ l. record { copy = values c.self.inside.persistent.objects; next = c.self.inside.next; changed = [] }
            ∷ take (c.self.invariant.is.savepoints l - 1) (marks_of c.self.inside.persistent.objects c.self.inside.journal.segments)) k;
      })
      ∙ ap saved (ap (λ s. s.store) c.self.view_is)) i;
  savepoints = (ap (λ (j : Held). j.marks) c.mark.ensures ∙ λ k. (c.self.view_is k).savepoints + 1) i;
  writes = (c.self.view_is i).writes;
}
