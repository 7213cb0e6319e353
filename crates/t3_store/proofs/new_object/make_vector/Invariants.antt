use Rattle.std.proofs.Common.{◌≡◌, take}
use Rattle.t3_lists.specs.Vector.{parts_of, places_of, filled}
use Rattle.t3_undo.specs.Content.{places_for}
use Rattle.t3_store.proofs.new_object.make_vector.Given as goal

abbrev pub invariant-loop-index : goal.invariant-loop-index
invariant-loop-index l = record {
  parts : parts_of l.vector ≡ filled (take l.index l.items);
  fresh_places : places_of l.vector ≡ places_for (parts_of l.vector);
}
