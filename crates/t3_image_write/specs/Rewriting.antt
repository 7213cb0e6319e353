-- What is written of an image's blocks as they are read.
use Rattle.std.specs.Prelude.{◌≡◌, ℕ, List, map, Option}
use Rattle.std.specs.List.{flat_map}
use Rattle.t3_image_read.specs.ImageText.{block_text}
use Rattle.t3_image_read.specs.declared.image.PlacedBlock.{PlacedBlock}
use Rattle.t3_image_write.specs.Masks.{masked_placed}

-- their texts, with the pages under the mask where one is given
abbrev pub rewritten_blocks : Option ℕ → List PlacedBlock → List ℕ
rewritten_blocks mask blocks = flat_map block_text (map (masked_placed mask) blocks)

abbrev pub HasRewritten : Option ℕ → List ℕ → List PlacedBlock → Type 0
HasRewritten mask written blocks = written ≡ rewritten_blocks mask blocks
