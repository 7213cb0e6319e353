use Rattle.std.proofs.Common.{arith}
use Rattle.t3_ops.specs.Builtins.{leading_number_of}
use Rattle.t3_ops.proofs.Counting.{digits-above}
use Rattle.t3_ops.proofs.builtins.leading_number.Goals as goal

pub returns-then-next-gt2147483648 : goal.returns-then-next-gt2147483648
returns-then-next-gt2147483648 c =
    let is = c.from.ensures in
    let digit = c.from-in-loop-byte.ensures in
    let long = c.if-next-gt2147483648.true in
    let above = digits-above c.args.bytes.now c.loop-byte.byte-index c.loop-byte.value (leading_number_of 0 c.args.bytes.now)
    c.loop-byte-test.true (omega arith) (omega arith) c.loop-byte.invariant.same in
    omega arith
