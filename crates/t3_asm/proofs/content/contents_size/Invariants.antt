use Rattle.std.proofs.Common.{◌≡◌, ◌+◌, ◌<◌, ◌^◌, length, drop}
use Rattle.t3_asm.specs.Places.{Labels}
use Rattle.t3_asm.specs.Blocks.{contents_of}
use Rattle.t3_asm.specs.Inner.Measures.{near}
use Rattle.t3_asm.proofs.content.contents_size.Given as goal

abbrev pub invariant-loop-item : goal.invariant-loop-item
invariant-loop-item l = (l.size < 2 ^ 64) × ((labels : Labels)
    → near (l.size + length (contents_of l.level labels (drop l.item-index l.items)))
    ≡ near (length (contents_of l.level labels l.items)))
