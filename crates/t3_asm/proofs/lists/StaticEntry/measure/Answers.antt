use Rattle.std.proofs.Common.{arith}
use Rattle.t3_blocks.proofs.Sizes.{length_static_text}
use Rattle.t3_asm.specs.Blocks.{static_of}
use Rattle.t3_asm.proofs.lists.StaticEntry.measure.Goals as goal

pub returns : goal.returns
returns c labels =
    omega (arith, length_static_text c.args.width (static_of labels c.args._item.now c.args.behind.now), c.contents_size.ensures labels)
