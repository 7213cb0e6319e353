use Rattle.std.proofs.Common.{◌≡◌, ◌++◌, drop}
use Rattle.t3_asm.specs.Blocks.{contents_of}
use Rattle.t3_asm.proofs.content.contents.Given as goal

-- the bytes so far, in front of those of the lines that are left
abbrev pub invariant-loop-item : goal.invariant-loop-item
invariant-loop-item l =
    l.bytes.items ++ contents_of l.level l.labels (drop l.item-index l.items) ≡ contents_of l.level l.labels l.items
