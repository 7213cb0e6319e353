use Rattle.std.proofs.Common.{arith}
use Rattle.t3_object_tests.proofs.WholeVectors.{first-whole}
use Rattle.t3_object_tests.proofs.tried.is_whole.Goals as goal

pub returns : goal.returns
returns c = λ _.
    first-whole c.args.vector.now (λ index less. c.loop-index.invariant index
    (omega (arith, less, c.loop-index-test.false, c.length-index-end.ensures.present)))
