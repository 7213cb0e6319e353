use Rattle.std.proofs.Common.{◌≡◌, ◌∙◌, ap, ℕ, Some, None}
use Rattle.std.specs.FinMap.{insert}
use Rattle.t3_holder.specs.declared.holder.Holder.{Holder}
use Rattle.t3_undo.specs.Present as presents
use Rattle.t3_undo.specs.Objects.{set_at}
use Rattle.t3_undo.specs.declared.cell.Cell.TheVariants as cells
use Rattle.t3_tadsobj.specs.Object.{Tads, props_of}
use Rattle.t3_tadsobj.proofs.PropLists.{props_of-set}
use Rattle.t3_store.specs.Inner.Shapes.{IsWithProp}
use Rattle.t3_store.proofs.MapValues.{made-more, made-none}
use Rattle.t3_store.proofs.new_object.make_tads.Goals as goal

with_prop : (old new : Tads) (number : ℕ) (value : Holder)
    → new ≡ record old {
      parts = set_at old.parts (cells.Prop number) (Some (presents.Value None value));
      places = insert old.places (cells.Prop number) 0;
    } → IsWithProp old new number value
with_prop old new number value is = record {
  props = ap (λ (o : Tads). props_of o.parts) is ∙ props_of-set old.parts number None value;
  supers = ap (λ (o : Tads). o.supers) is;
  parts = ap (λ (o : Tads). o.parts) is;
  places = ap (λ (o : Tads). o.places) is;
  class = ap (λ (o : Tads). o.class) is;
}

pub loop-left-init : goal.loop-left-init
loop-left-init c = made-none c.of-object.result c.args.supers c.args.class c.items-items.result.now c.of-object.ensures

pub loop-left-preserved : goal.loop-left-preserved
loop-left-preserved c =
    made-more _ _ _ _ _ c.loop-left.left _ c.loop-left.invariant c.loop-left-test.true (with_prop _ _ _ _ c.in_ok-set.ensures.ok)
