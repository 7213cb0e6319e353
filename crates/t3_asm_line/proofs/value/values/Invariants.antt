use Rattle.std.proofs.Common.{◌≡◌, map, drop}
use Rattle.t3_asm_line.specs.Keywords.{fields_of}
use Rattle.t3_asm_line.specs.Values.{values_of}
use Rattle.t3_asm_line.specs.Inner.Reading.{behind_values}
use Rattle.t3_asm_line.proofs.value.values.Given as goal

-- the values so far, in front of those that are left
abbrev pub invariant-loop-at : goal.invariant-loop-at
invariant-loop-at l = behind_values l.has_far l.values.items (values_of (drop l.at (fields_of l.keyword)) (map (λ word. word.now)
    (drop l.at l.words)))
    ≡ values_of (fields_of l.keyword) (map (λ word. word.now) l.words)
