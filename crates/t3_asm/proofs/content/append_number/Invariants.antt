use Rattle.std.proofs.Common.{◌≡◌, ◌-◌, ◌++◌}
use Rattle.t3_holder.specs.NumberText.{little_endian}
use Rattle.t3_asm.proofs.content.append_number.Given as goal

abbrev pub invariant-loop-at : goal.invariant-loop-at
invariant-loop-at l =
    l.out.items ++ little_endian (l.width - l._at) l.rest ≡ l.fn.out.items ++ little_endian l.width l.number
