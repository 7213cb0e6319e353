use Rattle.std.proofs.Common.{ℕ, ◌≡◌, ◌+◌, subst, arith, w16}
use mir.Val.{to_z, of_z}
use Rattle.t3_methods.specs.Operands.{HasJump}
use Rattle.t3_methods.proofs.Switching.{jump_shown, no_jump}
use Rattle.t3_methods.proofs.cases.read_jump.Goals as goal

pub returns-then-window-lt2-clause-finds : goal.returns-then-window-lt2-clause-finds
returns-then-window-lt2-clause-finds c jump has =
    let code = c.args.pools.now.code in
    let here : c.args.at ≡ c.args.at + 0 = omega arith in
    let less = c.if-window-lt2.true in
    no_jump code c.args.at 0 c.at-window.result.bytes.now jump c.at-window.ensures.shows (omega arith) (omega arith) (omega arith)
    (subst (λ (n : ℕ). HasJump code n jump) here has)

pub returns-clause-finds : goal.returns-clause-finds
returns-clause-finds c =
    let code = c.args.pools.now.code in
    let here : c.args.at + 0 ≡ c.args.at = omega arith in
    let enough = c.if-window-lt2.false in
    subst (λ (n : ℕ). HasJump code n (to_z w16 (of_z w16 c.int2.result))) here
    (jump_shown code c.args.at 0 c.at-window.result.bytes.now c.int2.result c.at-window.ensures.shows.shows (omega arith) c.int2.ensures)
