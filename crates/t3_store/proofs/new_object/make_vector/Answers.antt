use Rattle.std.proofs.Common.{◌≡◌, ap, sym, subst, List, length, take, arith}
use Rattle.std.proofs.lemmas.Grind.{common_steps}
use Rattle.t3_undo.specs.Content.{places_for}
use Rattle.t3_lists.specs.Vector.{parts_of, places_of}
use Rattle.t3_undo.specs.StampedValue.{ValuePlace}
use Rattle.t3_store.proofs.FreshPlaces.{places-vector, places-element}
use Rattle.t3_store.proofs.new_object.make_vector.Goals as goal

pub loop-index-init : goal.loop-index-init
loop-index-init c = record {
  parts = ap parts_of c.new-vector.ensures;
  fresh_places = subst (λ (es : List ValuePlace). places_of es ≡ places_for (parts_of es)) (sym c.new-vector.ensures) places-vector;
}

pub loop-index-preserved : goal.loop-index-preserved
loop-index-preserved c = record {
  parts = grind (arith, common_steps);
  fresh_places =
      let size : length (take c.loop-index.index c.args.items.now) ≡ c.loop-index.index = grind (arith, common_steps) in
      places-element _ _ (take c.loop-index.index c.args.items.now) c.loop-index.index _ c.loop-index.invariant.fresh_places
      c.loop-index.invariant.parts size c.in_ok-add_element.ensures.parts c.in_ok-add_element.ensures.places;
}
