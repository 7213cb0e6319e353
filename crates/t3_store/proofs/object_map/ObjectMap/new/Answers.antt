use Rattle.std.proofs.Common.{◌∙◌, ap, sym, subst}
use Rattle.t3_store.specs.Value.{units_in}
use Rattle.t3_store.specs.Inner.Shapes.{thing_of, places_of, tick_of, values}
use Rattle.t3_store.specs.Inner.Entries.{IsRising, things_of, places_in, ticks_in}
use Rattle.t3_store.specs.Inner.Valid.{AreValid}
use Rattle.t3_store.proofs.Validity.{valid-none}
use Rattle.t3_store.proofs.Rows.{by_number-none}
use Rattle.t3_store.proofs.MapValues.{units_in-none}
use Rattle.t3_store.proofs.object_map.ObjectMap.new.Goals as goal

pub invariant_of-result : goal.invariant_of-result
invariant_of-result c = record {
  rising = subst IsRising (sym c.new.ensures.items) tt;
  valid = subst AreValid (sym (ap things_of c.new.ensures.items ∙ by_number-none thing_of)) valid-none;
  counted = sym (ap (λ things. units_in (values things)) (ap things_of c.new.ensures.items ∙ by_number-none thing_of) ∙ units_in-none);
}

pub returns : goal.returns
returns c = λ i. record {
  objects = (ap things_of c.new.ensures.items ∙ by_number-none thing_of) i;
  places = (ap places_in c.new.ensures.items ∙ by_number-none places_of) i;
  ticks = (ap ticks_in c.new.ensures.items ∙ by_number-none tick_of) i;
}
