use Rattle.std.proofs.Common.{sym, subst}
use Rattle.t3_image_read.specs.Validity.{IsValid}
use Rattle.t3_asm.specs.Blocks.{blocks_of}
use Rattle.t3_asm.proofs.Sourcing.{image_parts}
use Rattle.t3_asm.proofs.source.image.Goals as goal

pub invariant_of-result : goal.invariant_of-result
unfolding blocks_of
invariant_of-result c =
    subst IsValid
    (sym (image_parts c.args.labels.now c.args.items.now _ _ _ c.head.ensures c.in_ok-blocks.ensures c.end_flags.ensures))
    c.requires.valid

pub returns : goal.returns
unfolding blocks_of
returns c =
    image_parts c.args.labels.now c.args.items.now _ _ _ c.head.ensures c.in_ok-blocks.ensures c.end_flags.ensures
