use Rattle.std.proofs.Common.{arith}
use Rattle.t3_blocks.proofs.Sizes.{length_prop_text}
use Rattle.t3_asm.specs.Blocks.{prop_of}
use Rattle.t3_asm.proofs.lists.PropEntryEntry.measure.Goals as goal

pub returns : goal.returns
returns c labels = omega (arith, length_prop_text (prop_of c.args.item.now c.args._behind.now), c.extra_size.ensures)
