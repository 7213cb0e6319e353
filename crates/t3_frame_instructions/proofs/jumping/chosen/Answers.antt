use Rattle.std.proofs.Common.{ℤ, Ok, Some, FitsSigned, w16, sym, ap, ◌∙◌, rules}
use Rattle.std.proofs.lemmas.Int.{to_z-of_z}
use Rattle.t3_frame_instructions.proofs.Cases.{no_gap, goes_there, passes, refuses}
use Rattle.t3_frame_instructions.proofs.jumping.chosen.Goals as goal

pub returns-in_default : goal.returns-in_default
returns-in_default c =
    absurd (no_gap c.args.pools.now c.args.store.now.store c.args.value c.args.at c.args.count c.loop-nth.nth c.loop-nth.turns c.loop-nth-test.true
    c.loop-nth.invariant c.in_default.ensures.finds)

pub returns-in-Ok-true : goal.returns-in-Ok-true
returns-in-Ok-true c =
    let fits : FitsSigned w16 c.in-Some.distance = search rules in
    goes_there c.args.pools.now c.args.store.now.store c.args.value c.args.at c.args.count c.loop-nth.nth c.loop-nth.turns c.equal.new.turns
    (c.in-Some.holder, c.in-Some.operand, c.in-Some.distance) c.loop-nth-test.true c.loop-nth.invariant c.in-Some.ensures.finds
    (c.in-Ok-true.ensures ∙ ap (λ b. Ok (b, c.equal.new.turns)) c.in-Ok-true.field-0-test)
    ∙ ap (λ (z : ℤ). Ok (Some (c.in-Some.operand, z))) (sym (to_z-of_z w16 c.in-Some.distance fits))

pub returns-in-Err : goal.returns-in-Err
returns-in-Err c =
    refuses c.args.pools.now c.args.store.now.store c.args.value c.args.at c.args.count c.loop-nth.nth c.loop-nth.turns
    (c.in-Some.holder, c.in-Some.operand, c.in-Some.distance) c.loop-nth-test.true c.loop-nth.invariant c.in-Some.ensures.finds
    c.equal.new.turns c.in-Err.refusal c.in-Err.ensures

pub loop-nth-preserved : goal.loop-nth-preserved
loop-nth-preserved c =
    passes c.args.pools.now c.args.store.now.store c.args.value c.args.at c.args.count c.loop-nth.nth c.loop-nth.turns c.equal.new.turns
    (c.in-Some.holder, c.in-Some.operand, c.in-Some.distance) c.loop-nth-test.true c.loop-nth.invariant c.in-Some.ensures.finds
    (c.in-Ok-false.ensures ∙ ap (λ b. Ok (b, c.equal.new.turns)) c.in-Ok-false.field-0-test)
