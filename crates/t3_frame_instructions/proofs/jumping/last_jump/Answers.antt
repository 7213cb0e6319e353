use Rattle.std.proofs.Common.{Some, ℤ, ◌+◌, ◌*◌, FitsSigned, w16, option_map, sym, ap, ◌∙◌, rules}
use Rattle.std.specs.Int.{cast_signed}
use Rattle.std.proofs.lemmas.Int.{to_z-of_z}
use Rattle.t3_frame_instructions.proofs.Cases.{jump_in-bytes, jump_in-gap, jump_in-cut}
use Rattle.t3_frame_instructions.proofs.jumping.last_jump.Goals as goal

pub returns-in_default : goal.returns-in_default
returns-in_default c =
    sym (ap (option_map (λ (jump : ℤ). (c.args.at, jump))) (jump_in-gap c.args.pools.now.code c.args.at (sym c.in_default.ensures.byte)))

pub returns-in_default-byte : goal.returns-in_default-byte
returns-in_default-byte c =
    sym (ap (option_map (λ (jump : ℤ). (c.args.at, jump)))
    (jump_in-cut c.args.pools.now.code c.args.at c.in-Some.low (sym c.in-Some.ensures.byte) (sym c.in_default-byte.ensures.byte)))

pub returns : goal.returns
returns c =
    let fits : FitsSigned w16 c.cast_signed.result = search rules in
    let number = c.cast_signed.ensures ∙ (λ i. cast_signed w16 (256 * c.from.ensures i + c.from-2.ensures i)) in
    let read = jump_in-bytes c.args.pools.now.code c.args.at c.in-Some.low c.in-Some-byte.high (sym c.in-Some.ensures.byte) (sym c.in-Some-byte.ensures.byte) in
    ap (λ z. Some (c.args.at, z)) (to_z-of_z w16 c.cast_signed.result fits ∙ number)
    ∙ sym (ap (option_map (λ (jump : ℤ). (c.args.at, jump))) read)
