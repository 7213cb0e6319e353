use Rattle.std.proofs.Common.{sym, ◌∙◌}
use Rattle.t3_object_instructions.proofs.Present.{not-pure}
use Rattle.t3_object_instructions.proofs.builtin.gen_builtin.Goals as goal

pub returns-in_ok-effect-in-Some-clause-steady : goal.returns-in_ok-effect-in-Some-clause-steady
returns-in_ok-effect-in-Some-clause-steady c =
    λ calls. absurd (not-pure _ c.args.index c.args.count (sym c.pure_at.ensures ∙ c.in-Some.is) calls)

pub returns-in_err-effect-in-Some-clause-steady : goal.returns-in_err-effect-in-Some-clause-steady
returns-in_err-effect-in-Some-clause-steady c =
    λ calls. absurd (not-pure _ c.args.index c.args.count (sym c.pure_at.ensures ∙ c.in-Some.is) calls)
