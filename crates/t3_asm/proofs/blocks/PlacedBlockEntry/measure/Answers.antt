use Rattle.std.proofs.Common.{arith}
use Rattle.t3_asm.proofs.Payloads.{length-placed}
use Rattle.t3_asm.proofs.blocks.PlacedBlockEntry.measure.Goals as goal

pub returns : goal.returns
returns c labels = omega (arith, length-placed labels c.args.item.now c.args.behind.now, c.payload_size.ensures labels)
