use Rattle.std.proofs.Common.{◌≡◌, ◌<◌, ◌≤◌, List, length, sym, ap, subst, ◌∙◌}
use Rattle.t3_image_read.specs.declared.image.PlacedBlock.{PlacedBlock}
use Rattle.t3_image_write.proofs.Parts.{all_over}
use Rattle.t3_image_write.proofs.Remasked.{remasked_more, remasked_all}
use Rattle.t3_image_write.proofs.masking.remask_blocks.Goals as goal

pub loop-placed-init : goal.loop-placed-init
loop-placed-init c = c.deref_mut-placed-items.ensures.value ∙ c.blocks-2.view_is

pub loop-placed-preserved : goal.loop-placed-preserved
loop-placed-preserved c =
    let there = c.deref_mut-placed-items.ensures.value ∙ c.blocks-2.view_is in
    let less : c.loop-placed.placed-index < length c.args.blocks.now =
    subst (λ xs. c.loop-placed.placed-index < length xs) there c.loop-placed-test.true in
    remasked_more c.args.mask c.args.blocks.now c.loop-placed.placed-items c.loop-placed.placed-index c.placed-item.result
    c.remask_block.new.block less c.loop-placed.invariant c.placed-item.is c.remask_block.ensures

pub returns : goal.returns
returns c =
    let there = c.deref_mut-placed-items.ensures.value ∙ c.blocks-2.view_is in
    let inside = c.blocks-2.inside.0 in
    let all : length c.args.blocks.now ≤ c.loop-placed.placed-index =
    subst (λ (xs : List PlacedBlock). length xs ≤ c.loop-placed.placed-index) there c.loop-placed-test.false in
    let long : length c.loop-placed.placed-items ≡ inside.len =
    c.loop-placed.auto.placed-items ∙ ap length c.deref_mut-placed-items.ensures.value ∙ sym inside.ok.0 in
    all_over c.loop-placed.placed-items inside.items inside.len long
    ∙ remasked_all c.args.mask c.args.blocks.now c.loop-placed.placed-items c.loop-placed.placed-index all c.loop-placed.invariant
