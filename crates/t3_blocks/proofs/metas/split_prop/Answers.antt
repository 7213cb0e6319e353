use Rattle.std.proofs.Common.{◌≡◌, ◌<◌, ◌-◌, length, subst, arith}
use Rattle.t3_blocks.proofs.Splits.{at_none, no_prop_number, no_prop_extra}
use Rattle.t3_blocks.proofs.metas.split_prop.Goals as goal

pub returns-in_err-number : goal.returns-in_err-number
returns-in_err-number c = at_none _ _ _ c.from_residual.ensures (no_prop_number c.args.size c.args.bytes.now c.in_err-number.ensures)

pub returns-in_err-extra : goal.returns-in_err-extra
returns-in_err-extra c =
    let mid : c.in_ok-checked_sub.field-0 ≡ c.args.size - 2 = omega (arith, c.in_ok-checked_sub.ensures.1, c.from.ensures) in
    at_none _ _ _ c.from_residual-in_err-extra.ensures
    (no_prop_extra c.args.size c.args.bytes.now c.in_ok-number.rest.now c.in_ok-number.number c.in_ok-number.ensures.0
    c.in_ok-number.ensures.1 (subst (λ n. length c.in_ok-number.rest.now < n) mid c.in_err-extra.ensures.cases))
