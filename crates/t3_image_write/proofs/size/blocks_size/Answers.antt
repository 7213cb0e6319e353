use Rattle.std.proofs.Common.{◌^◌, ◌<◌, List, length, sym, subst, ◌∙◌, arith}
use Rattle.std.specs.List.{flat_map}
use Rattle.t3_image_read.specs.declared.image.PlacedBlock.{PlacedBlock}
use Rattle.t3_image_read.specs.ImageText.{block_text}
use Rattle.t3_blocks.proofs.Sizes.{size_within}
use Rattle.t3_image_write.proofs.size.blocks_size.Goals as goal

pub overflow_add-size : goal.overflow_add-size
overflow_add-size c =
    let loop = c.loop-placed in
    let there = c.deref-placed-items.ensures.value ∙ c.blocks-2.view_is in
    let few = subst (λ (bs : List PlacedBlock). length (flat_map block_text bs) < 2 ^ 32) (sym there) c.requires.few in
    omega (
      arith,
      c.size-size.ensures,
      size_within block_text c.deref-placed-items.result.now loop.placed-index loop.size c.placed-item.result c.loop-placed-test.true
          c.placed-item.is loop.invariant few,
    )
