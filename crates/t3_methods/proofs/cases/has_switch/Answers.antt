use Rattle.std.proofs.Common.{◌≡◌, ◌+◌, ◌*◌, ℕ, suc, sym, subst, arith}
use Rattle.t3_methods.specs.Operands.{HasCases}
use Rattle.t3_methods.proofs.Switching.{SomeCase, cases-more, cases-each, switch_told}
use Rattle.t3_methods.proofs.cases.has_switch.Goals as goal

pub returns-in_default-clause-decides : goal.returns-in_default-clause-decides
returns-in_default-clause-decides c has =
    let code = c.args.pools.now.code in
    let less = c.loop-test.true in
    let some = cases-each code c.args.at c.args.count c.loop.counter less has.cases in
    let here : SomeCase code c.loop.next = subst (λ (n : ℕ). SomeCase code n) (sym c.loop.invariant.next) some in
    c.in_default.ensures.reads here.0 here.1.0 here.1.1

pub loop-preserved : goal.loop-preserved
loop-preserved c =
    let code = c.args.pools.now.code in
    let found = c.in-Some.ensures in
    let some : SomeCase code c.loop.next = (c.in-Some.field-0.0, (c.in-Some.field-0.1, found.reads)) in
    let here : SomeCase code (c.args.at + 7 * c.loop.counter) = subst (λ (n : ℕ). SomeCase code n) c.loop.invariant.next some in
    let next : suc c.loop.counter ≡ c.loop.counter + 1 = omega arith in
    let below = found.bounded in
    record {
      next = omega (arith, c.loop.invariant.next);
      below = omega arith;
      cases = subst (λ (n : ℕ). HasCases code c.args.at n) next (cases-more code c.args.at c.loop.counter c.loop.invariant.cases here);
    }

pub returns : goal.returns
returns c =
    let code = c.args.pools.now.code in
    let past = c.loop-test.false in
    let most = c.loop.auto.counter-end in
    let kept = c.loop.invariant in
    let all : c.loop.counter ≡ c.args.count = omega arith in
    let cases : HasCases code c.args.at c.args.count = subst (λ (n : ℕ). HasCases code c.args.at n) all kept.cases in
    let next : c.loop.next ≡ c.args.at + 7 * c.args.count = omega (arith, kept.next) in
    switch_told code c.args.at c.args.count c.loop.next c.read_jump.result c.is_some.result cases next c.is_some.ensures
    c.read_jump.ensures.finds c.read_jump.ensures.bounded
