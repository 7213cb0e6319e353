use Rattle.std.proofs.Common.{◌≡◌, ◌+◌, ◌*◌, ◌^◌, ◌≤◌, ◌++◌, drop}
use Rattle.t3_asm_line.specs.Keywords.{fields_of}
use Rattle.t3_asm.specs.Values.{fields_text}
use Rattle.t3_asm.proofs.content.append_fields.Given as goal

abbrev pub invariant-loop-at : goal.invariant-loop-at
invariant-loop-at l =
    (l.out.items ++ fields_text l.labels l.origin.method l.address (drop l.at (fields_of l.keyword)) (drop l.at l.arguments)
    ≡ l.fn.out.items ++ fields_text l.labels l.origin.method l.origin.address (fields_of l.keyword) l.arguments)
    × (l.address ≤ 2 ^ 113 + 4 * l.at)
