use Rattle.std.proofs.Common.{refl, ℕ, ◌+◌, ◌*◌, sym, subst}
use Rattle.t3_methods.specs.declared.kind.Kind.TheVariants.{Cases}
use Rattle.t3_methods.specs.Inner.Cases.{EndsOperand}
use Rattle.t3_methods.proofs.Ending.{end_cases, end_uncased}
use Rattle.t3_methods.proofs.operands.cases_end.Goals as goal

pub returns-then-has_switch : goal.returns-then-has_switch
returns-then-has_switch c =
    let code = c.args.pools.now.code in
    let w = c.args.window in
    subst (λ (n : ℕ). EndsOperand code w c.args.place Cases (c.args.place + 4 + 7 * n)) (sym c.from.ensures)
    (end_cases code w c.args.place c.uint2-count.result c.uint2-count.ensures c.requires.shows c.requires.behind
    c.if-has_switch.ensures.decides (c.if-has_switch.ensures.bounded refl))

pub returns-else-has_switch : goal.returns-else-has_switch
returns-else-has_switch c =
    end_uncased c.args.pools.now.code c.args.window c.args.place c.uint2-count.result c.uint2-count.ensures c.requires.shows
    c.requires.behind c.if-has_switch.ensures.decides
