use Rattle.std.proofs.Common.{arith}
use Rattle.t3_lists.specs.Vector.{places_of}
use Rattle.t3_object_tests.proofs.Places.{more-places}
use Rattle.t3_object_tests.proofs.vectors.make_places.Goals as goal

pub loop-index-init : goal.loop-index-init
loop-index-init c number least most = absurd (omega arith)

pub make_place-requires : goal.make_place-requires
make_place-requires c = (omega arith, λ lower least less. c.loop-index.invariant lower least (omega arith))

pub loop-index-preserved : goal.loop-index-preserved
loop-index-preserved c =
    more-places (places_of c.loop-index.vector) (places_of c.make_place.new.self) c.loop-index.index c.loop-index.invariant
    c.in_ok-make_place.ensures.ok
