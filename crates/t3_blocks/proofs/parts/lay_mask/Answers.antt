use Rattle.std.proofs.Common.{get_or, arith}
use Rattle.std.specs.Int.Bits.{bit_xor}
use Rattle.std.proofs.lemmas.List.{get_or_default}
use Rattle.std.proofs.lemmas.List.Edits.{map_over_more}
use Rattle.t3_blocks.proofs.parts.lay_mask.Goals as goal

pub loop-byte-preserved : goal.loop-byte-preserved
loop-byte-preserved c =
    let loop = c.loop-byte in
    let byte = get_or loop.bytes loop.byte-index 0 in
    let same = get_or_default loop.bytes loop.byte-index 0 byte (omega (arith, c.loop-byte-test.true, loop.auto.bytes)) in
    map_over_more (λ b. bit_xor b c.args.mask) c.args.bytes.now loop.bytes loop.byte-index byte c.loop-byte-test.true loop.invariant same
