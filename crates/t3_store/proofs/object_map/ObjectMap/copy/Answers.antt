use Rattle.std.proofs.Common.{◌∙◌, ◌+◌, ap, sym, subst, map, ℕ}
use Rattle.t3_store.specs.Value.{units_in}
use Rattle.t3_store.specs.Inner.Shapes.{values, AreWithin}
use Rattle.t3_store.specs.Inner.Entries.{keyed, ticks_in, AreAllValid}
use Rattle.t3_store.proofs.Copying.{values-keyed, rising-keyed, valid-each, each-valid, ticks-within, no-empty-each}
use Rattle.t3_store.proofs.object_map.ObjectMap.copy.Goals as goal

pub copy_all-requires : goal.copy_all-requires
copy_all-requires c =
    subst AreAllValid (sym c.deref.ensures.value) (valid-each c.self.inside.entries.items c.self.invariant.rising c.self.invariant.valid)

pub invariant_of-result : goal.invariant_of-result
invariant_of-result c =
    let same = c.in_ok-entries.ensures.values ∙ ap (map keyed) c.deref.ensures.value in
    record {
      rising = rising-keyed c.in_ok-entries.entries.items c.self.inside.entries.items same c.self.invariant.rising;
      counted = c.self.invariant.counted ∙ ap units_in
          (sym (values-keyed c.in_ok-entries.entries.items c.self.inside.entries.items same));
      valid = each-valid c.in_ok-entries.entries.items c.in_ok-entries.ensures.valid;
    }

pub returns : goal.returns
returns c =
    let same = values-keyed c.in_ok-entries.entries.items c.self.inside.entries.items
    (c.in_ok-entries.ensures.values ∙ ap (map keyed) c.deref.ensures.value) ∙ ap (λ s. values s.objects) c.self.view_is in
    record {
      values = same;
      ticks = subst (λ (n : ℕ). AreWithin (n + 1) (ticks_in c.in_ok-entries.entries.items)) (ap units_in same)
          (ticks-within c.in_ok-entries.entries.items c.in_ok-entries.ensures.ticks);
      fresh_places = no-empty-each c.in_ok-entries.entries.items c.in_ok-entries.ensures.fresh_places;
    }
