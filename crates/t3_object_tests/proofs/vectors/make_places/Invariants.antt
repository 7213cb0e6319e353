use Rattle.t3_lists.specs.Vector.{places_of}
use Rattle.t3_object_tests.specs.Places.{HasPlacesTo}
use Rattle.t3_object_tests.proofs.vectors.make_places.Given as goal

-- the places so far
abbrev pub invariant-loop-index : goal.invariant-loop-index
invariant-loop-index l = HasPlacesTo (places_of l.vector) l.index
