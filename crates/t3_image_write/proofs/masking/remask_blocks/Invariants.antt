use Rattle.std.proofs.Common.{◌≡◌, ◌++◌, map, take, drop}
use Rattle.t3_image_write.specs.Masks.{remask_placed_of}
use Rattle.t3_image_write.proofs.masking.remask_blocks.Given as goal

abbrev pub invariant-loop-placed : goal.invariant-loop-placed
invariant-loop-placed l =
    l.placed-items ≡ map (remask_placed_of l.mask) (take l.placed-index l.fn.blocks) ++ drop l.placed-index l.fn.blocks
