use Rattle.std.proofs.Common.{◌≡◌, ◌-◌, ◌∷◌, [], ◌++◌}
use Rattle.std.specs.List.{flat_map, range_with_len}
use Rattle.t3_drill.specs.Drill.{add_object, instructions_text, objects}
use Rattle.t3_drill.proofs.code.append_ending.Given as goal

abbrev pub invariant-loop-object : goal.invariant-loop-object
invariant-loop-object l =
    l.code.items ++ instructions_text (flat_map add_object (range_with_len l.object (65 - l.object)))
    ≡ (l.fn.code.items ++ 1 ∷ []) ++ instructions_text (flat_map add_object objects)
