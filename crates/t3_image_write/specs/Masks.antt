-- An image whose pages are all under one mask. Nothing else is changed: the mask is laid on a page's bytes as it is written.
use Rattle.std.specs.Prelude.{ℕ, Option, Some, None, map}
use Rattle.t3_blocks.specs.declared.block.Block.{Block}
use Rattle.t3_blocks.specs.declared.block.Block.TheVariants.{Page}
use Rattle.t3_image_read.specs.ImageText.{ImageValue}
use Rattle.t3_image_read.specs.declared.image.PlacedBlock.{PlacedBlock}

-- a page gets the mask, any other block stays
abbrev pub remask_block_of : ℕ → Block → Block
remask_block_of mask (Page pool index own bytes) = Page pool index mask bytes
remask_block_of mask block = block

abbrev pub remask_placed_of : ℕ → PlacedBlock → PlacedBlock
remask_placed_of mask placed = record placed { block = remask_block_of mask placed.block }

abbrev pub remask_of : ℕ → ImageValue → ImageValue
remask_of mask image = record image { blocks = map (remask_placed_of mask) image.blocks }

-- with its page under the mask, where one is given
abbrev pub masked_placed : Option ℕ → PlacedBlock → PlacedBlock
masked_placed None placed = placed
masked_placed (Some mask) placed = remask_placed_of mask placed

-- the image with every page under the mask, where one is given
abbrev pub masked_image : Option ℕ → ImageValue → ImageValue
masked_image None image = image
masked_image (Some mask) image = remask_of mask image
