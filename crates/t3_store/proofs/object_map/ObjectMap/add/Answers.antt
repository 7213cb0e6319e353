use Rattle.std.proofs.Common.{◌≡◌, ◌∙◌, ap, sym, subst, None, arith}
use Rattle.std.specs.FinMap.{get}
use Rattle.std.specs.Option.{option_map}
use Rattle.t3_store.specs.Value.{units_in}
use Rattle.t3_store.specs.Inner.Shapes.{thing_of, value_of, values}
use Rattle.t3_store.specs.Inner.Valid.{AreValid}
use Rattle.t3_store.specs.Inner.Entries.{things_of}
use Rattle.t3_store.proofs.Validity.{valid-insert}
use Rattle.t3_store.proofs.MapValues.{get-values, values-insert, units_in-new}
use Rattle.t3_store.proofs.object_map.ObjectMap.add.Goals as goal

pub invariant_of-self-2 : goal.invariant_of-self-2
invariant_of-self-2 c =
    let things = things_of c.self.inside.entries.items in
    let none : get (values things) c.args.number ≡ None =
    get-values things c.args.number ∙ ap (option_map value_of) ((λ i. get (c.self.view_is i).objects c.args.number) ∙ c.requires.new) in
    let sum = ap units_in (ap values c.in_ok-add.ensures.ok ∙ values-insert things c.args.number (thing_of c.args.object))
    ∙ units_in-new (values things) c.args.number (value_of (thing_of c.args.object)) none in
    let old = c.self.invariant.counted in
    let units = c.requires.units in
    record {
      rising = c.add.ensures.rising;
      counted = omega arith;
      valid = subst AreValid (sym c.in_ok-add.ensures.ok)
          (valid-insert things c.args.number (thing_of c.args.object) c.self.invariant.valid c.requires.valid);
    }
