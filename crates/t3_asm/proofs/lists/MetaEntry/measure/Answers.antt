use Rattle.std.proofs.Common.{arith}
use Rattle.t3_blocks.proofs.Sizes.{length_meta_text, length-meta_body}
use Rattle.t3_asm.specs.Blocks.{meta_of}
use Rattle.t3_asm.proofs.lists.MetaEntry.measure.Goals as goal

pub returns : goal.returns
returns c labels =
    let meta = meta_of c.args.item.now c.args.behind.now in
    omega (arith, length_meta_text meta, length-meta_body meta, c.entries_size.ensures labels)
