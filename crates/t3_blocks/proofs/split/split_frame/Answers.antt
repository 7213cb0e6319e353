use Rattle.std.proofs.Common.{◌≤◌, ◌<◌, ◌-◌, ◌≡◌, length, subst, arith}
use Rattle.std.specs.List.{IsSplitAt}
use Rattle.t3_blocks.proofs.Splits.{at_none, mapped, no_frame_size, no_frame, no_frame_body, is_frame}
use Rattle.t3_blocks.proofs.split.split_frame.Goals as goal

pub returns-in_err-size : goal.returns-in_err-size
returns-in_err-size c = at_none _ _ _ c.from_residual.ensures (no_frame_size c.args.bytes.now c.in_err-size.ensures)

pub returns-in_err-checked_sub : goal.returns-in_err-checked_sub
returns-in_err-checked_sub c =
    let few : ¬ (2 ≤ c.from.result) = c.in_err-checked_sub.ensures in
    let small : c.in_ok-size.size < 2 = omega (arith, few, c.from.ensures) in
    at_none _ _ _ c.from_residual-in_err-checked_sub.ensures
    (no_frame c.args.bytes.now c.in_ok-size.rest.now c.in_ok-size.size c.in_ok-size.ensures.0 c.in_ok-size.ensures.1 small)

pub returns : goal.returns
returns c =
    let bytes = c.args.bytes.now in
    let rest = c.in_ok-size.rest.now in
    let size = c.in_ok-size.size in
    let least : 2 ≤ size = omega (arith, c.in_ok-checked_sub.ensures.0, c.from.ensures) in
    let mid : c.in_ok-checked_sub.field-0 ≡ size - 2 = omega (arith, c.in_ok-checked_sub.ensures.1, c.from.ensures) in
    mapped c.split_at_checked.result
    (λ short. no_frame_body bytes rest size c.in_ok-size.ensures.0 c.in_ok-size.ensures.1 (subst (λ n. length rest < n) mid short))
    (λ parts split. is_frame bytes rest parts.0.now parts.1.now size c.in_ok-size.ensures.0 c.in_ok-size.ensures.1 least
    (subst (λ n. IsSplitAt rest n parts.0.now parts.1.now) mid split))
    c.split_at_checked.ensures.cases
