use Rattle.std.proofs.Common.{sym, subst, IsSome}
use Rattle.std.specs.FinMap.{get}
use Rattle.std.specs.Option.{option_and_then}
use Rattle.t3_undo.specs.Content.{shown}
use Rattle.t3_undo.specs.declared.cell.Cell.TheVariants as cells
use Rattle.t3_store.specs.Value.{Objects, entries_in, with_cell}
use Rattle.t3_store.specs.Inner.Shapes.{values}
use Rattle.t3_undo.proofs.PresentForms.{default-some}
use Rattle.t3_store.proofs.KindValues.{table-default}
use Rattle.t3_store.proofs.Changes.{units-overwritten}
use Rattle.t3_store.proofs.Adding.{overwritten-kept}
use Rattle.t3_store.proofs.persistent.Persistent.set_default.Goals as goal

pub invariant_of-self : goal.invariant_of-self
invariant_of-self c =
    let P : Objects → Type 0 = λ m. IsSome (option_and_then entries_in (get m c.args.number)) in
    let there = table-default (get (values c.self.inside.objects.objects) c.args.number) (subst P (sym c.self.view_is) c.requires.table) in
    overwritten-kept c.self.inside.objects c.overwrite-old.new.objects c.args.number cells.Default (with_cell cells.Default c.args.value)
    (shown c.overwrite-old.result) c.self.invariant c.overwrite-old.ensures.written
    (units-overwritten _ _ c.args.number cells.Default c.args.value _ c.overwrite-old.ensures.written there)
    (default-some _ c.overwrite-old.ensures.written.formed) c.overwrite-old.ensures.placed
