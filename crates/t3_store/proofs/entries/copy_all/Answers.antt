use Rattle.std.proofs.Common.{◌∙◌, ap, sym, subst, map, arith}
use Rattle.t3_store.specs.Inner.Shapes.{thing_of, HasFreshPlaces}
use Rattle.t3_store.specs.Inner.Valid.{IsValid}
use Rattle.t3_store.specs.Inner.Entries.{keyed, AreAllValid, HasTickForUnits, HaveTicksForUnits, HaveAllFreshPlaces}
use Rattle.t3_store.specs.declared.entries.Entry.{Entry}
use Rattle.t3_store.proofs.Copying.{keyed-next, all-next, all-at}
use Rattle.t3_store.proofs.entries.copy_all.Goals as goal

pub copy_one-requires : goal.copy_one-requires
copy_one-requires c =
    all-at (λ (e : Entry). IsValid (thing_of e.object)) c.args.entries.now c.loop-entry.entry-index _ c.requires (omega arith) c.entry-item.is

pub loop-entry-preserved : goal.loop-entry-preserved
loop-entry-preserved c = record {
  values = ap (map keyed) c.in_ok-push.ensures.items
      ∙ keyed-next c.loop-entry.copy.items c.args.entries.now c.loop-entry.entry-index _ c.entry-item.result (omega arith) c.entry-item.is
      c.in_ok-copy_one.ensures.same c.loop-entry.invariant.values;
  valid = subst AreAllValid (sym c.in_ok-push.ensures.items)
      (all-next (λ (e : Entry). IsValid (thing_of e.object)) c.loop-entry.copy.items _ c.loop-entry.invariant.valid c.in_ok-copy_one.ensures.valid);
  ticks = subst HaveTicksForUnits (sym c.in_ok-push.ensures.items)
      (all-next HasTickForUnits c.loop-entry.copy.items _ c.loop-entry.invariant.ticks c.in_ok-copy_one.ensures.tick);
  fresh_places = subst HaveAllFreshPlaces (sym c.in_ok-push.ensures.items)
      (all-next (λ (e : Entry). HasFreshPlaces e.object) c.loop-entry.copy.items _ c.loop-entry.invariant.fresh_places
      c.in_ok-copy_one.ensures.fresh_places);
}
