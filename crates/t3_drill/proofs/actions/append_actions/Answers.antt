use Rattle.std.proofs.Common.{◌≡◌, ◌+◌, ◌-◌, ◌++◌, arith}
use Rattle.std.specs.List.{flat_map}
use Rattle.t3_drill.specs.Drill.{action, actions, drill_actions, instructions_text, seeds_after}
use Rattle.t3_drill.proofs.Texts.{actions_step, actions_done}
use Rattle.t3_drill.proofs.actions.append_actions.Goals as goal

pub loop-init : goal.loop-init
unfolding actions
loop-init c =
    let count : c.drill_actions-end.result - 0 ≡ drill_actions c.args.number = omega (arith, c.drill_actions-end.ensures) in
    λ i. c.args.code.now.items ++ instructions_text (flat_map action (seeds_after (c.from-seed.ensures i) (count i)))

pub loop-preserved : goal.loop-preserved
loop-preserved c =
    let end = c.drill_actions-end.result in
    actions_step c.loop.code.items c.append_drawn.new.code.items _ c.loop.seed c.next_seed-seed.result (end - c.loop.counter)
    (end - (c.loop.counter + 1)) c.next_seed-seed.ensures (omega arith) c.in_ok-append_drawn.ensures c.loop.invariant

pub returns : goal.returns
returns c =
    actions_done c.loop.code.items _ c.loop.seed (c.drill_actions-end.result - c.loop.counter) (omega arith) c.loop.invariant
