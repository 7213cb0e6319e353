use Rattle.std.proofs.Common.{◌≡◌, ◌+◌, ◌*◌, ◌^◌, ◌≤◌, drop}
use Rattle.t3_asm_line.specs.Keywords.{fields_of}
use Rattle.t3_asm.specs.Values.{some_breaks}
use Rattle.t3_asm.proofs.values.some_breaks.Given as goal

abbrev pub invariant-loop-at : goal.invariant-loop-at
invariant-loop-at l =
    (some_breaks l.rule l.labels l.origin.method l.address (drop l.at (fields_of l.keyword)) (drop l.at l.arguments)
    ≡ some_breaks l.rule l.labels l.origin.method l.origin.address (fields_of l.keyword) l.arguments)
    × (l.address ≤ 2 ^ 113 + 4 * l.at)
