use Rattle.std.proofs.Common.{◌≡◌, ◌*◌, ◌≤◌, take}
use Rattle.t3_asm_line.specs.Keywords.{fields_of}
use Rattle.t3_asm.specs.Sizes.{fields_size}
use Rattle.t3_asm.proofs.sizes.fields_size.Given as goal

abbrev pub invariant-loop-at : goal.invariant-loop-at
invariant-loop-at l = (l.size ≡ fields_size (take l.at (fields_of l.keyword))) × (l.size ≤ 4 * l.at)
