use Rattle.std.proofs.Common.{◌≡◌, length, take}
use Rattle.std.specs.List.{flat_map}
use Rattle.t3_image_read.specs.ImageText.{block_text}
use Rattle.t3_image_write.proofs.size.blocks_size.Given as goal

abbrev pub invariant-loop-placed : goal.invariant-loop-placed
invariant-loop-placed l = l.size ≡ length (flat_map block_text (take l.placed-index l.placed-items))
