use Rattle.std.proofs.Common.{◌≡◌, ◌-◌, ◌++◌}
use Rattle.std.specs.List.{flat_map}
use Rattle.t3_drill.specs.Drill.{action, actions, instructions_text, seeds_after}
use Rattle.t3_drill.proofs.actions.append_actions.Given as goal

abbrev pub invariant-loop : goal.invariant-loop
invariant-loop l =
    l.code.items ++ instructions_text (flat_map action (seeds_after l.seed (l.end - l.counter)))
    ≡ l.fn.code.items ++ instructions_text (actions l.fn.number)
