use Rattle.std.proofs.Common.{◌≡◌, ◌∙◌, ◌+◌, ap, sym, subst, false, if◌then◌else◌, is_some, is_none, ltb-false}
use Rattle.std.specs.FinMap.{get}
use Rattle.t3_undo.specs.declared.cell.Cell.TheVariants as cells
use Rattle.t3_store.specs.Value.{Objects, IsTableWithout, with_cell, units_in, holder_at, is_past_units}
use Rattle.t3_undo.specs.Units.{key_units}
use Rattle.t3_store.specs.Inner.Shapes.{values}
use Rattle.t3_store.specs.declared.limits.StoreRefusal.TheVariants as refusals
use Rattle.t3_tables.proofs.EntryUnits.{least-units}
use Rattle.t3_store.proofs.KindValues.{table-key}
use Rattle.t3_store.proofs.MapValues.{units_in-with}
use Rattle.t3_store.proofs.Changes.{ok-not}
use Rattle.t3_store.proofs.Adding.{paired-kept, not-and}
use Rattle.t3_store.proofs.persistent.Persistent.add_pair.Goals as goal

pub invariant_of-self-2 : goal.invariant_of-self-2
invariant_of-self-2 c =
    let m = values c.self.inside.objects.objects in
    let P : Objects → Type 0 = λ m. IsTableWithout c.args.key (get m c.args.number) in
    let table = subst P (sym c.self.view_is) c.requires.table in
    let can = table-key (get m c.args.number) c.args.key table.0 in
    let w = c.in_ok-_absent.ensures.ok in
    let sum : units_in (values c.set.new.objects.objects) ≡ units_in m + key_units c.args.key =
    ap units_in w.values ∙ units_in-with m c.args.number (cells.Key c.args.key) c.args.value can
    ∙ ap (λ o. if is_some o then units_in m else units_in m + key_units c.args.key) table.1 in
    let open_full : c.is_past_units-full.result ≡ false =
    not-and (is_none (holder_at (get m c.args.number) (cells.Key c.args.key))) _ (ap is_none table.1)
    (ok-not c.set.result _ refusals.Full c.in_ok-_absent.was c.set.ensures.full.1) in
    let few = ltb-false 4194304 (units_in m + key_units c.args.key)
    (ap (λ n. is_past_units m n) (sym c.cell_units.ensures) ∙ sym c.is_past_units-full.ensures ∙ open_full) in
    paired-kept c.self.inside.objects c.set.new.objects c.args.number (cells.Key c.args.key) (with_cell (cells.Key c.args.key) c.args.value)
    _ c.self.invariant w sum (least-units c.args.key) few c.in_ok-_absent.ensures.placed
