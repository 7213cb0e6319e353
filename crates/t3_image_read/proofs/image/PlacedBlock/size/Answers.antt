use Rattle.std.proofs.Common.{arith}
use Rattle.t3_image_read.proofs.Blocks.{length-block_text}
use Rattle.t3_image_read.proofs.image.PlacedBlock.size.Goals as goal

pub returns : goal.returns
returns c = omega (arith, c.payload_size.ensures, length-block_text c.args.self.now c.requires)
