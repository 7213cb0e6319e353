use Rattle.std.proofs.Common.{sym, subst, arith}
use Rattle.t3_ops.specs.Equality.{WalkResult, Different, Unreadable, AnswersEqual}
use Rattle.t3_ops.specs.Inner.Walk.{pairs_of}
use Rattle.t3_ops.proofs.Walking.{first-goes, first-same, first-inside}
use Rattle.t3_ops.proofs.equality.equal_contents.Goals as goal

pub returns-in-Same : goal.returns-in-Same
returns-in-Same c =
    first-same c.args.pools.now.constants c.args.store.now.store c.args.turns.now c.args.left c.args.right
    (λ none. absurd (omega (arith, c.requires))) c.in-Same.ensures.found

pub returns-in-Different : goal.returns-in-Different
returns-in-Different c =
    first-goes c.args.pools.now.constants c.args.store.now.store c.args.turns.now c.args.left c.args.right Different
    (λ none. absurd (omega (arith, c.requires))) c.in-Different.ensures.found

pub returns-in-Unreadable : goal.returns-in-Unreadable
returns-in-Unreadable c =
    first-goes c.args.pools.now.constants c.args.store.now.store c.args.turns.now c.args.left c.args.right Unreadable
    (λ none. absurd (omega (arith, c.requires))) c.in-Unreadable.ensures.found

pub returns-in-Inside : goal.returns-in-Inside
returns-in-Inside c =
    let pool = c.args.pools.now.constants in
    subst (λ (t : WalkResult). AnswersEqual t c.equal_pairs.result c.equal_pairs.new.turns)
    (sym (first-inside pool c.args.store.now.store c.args.turns.now c.args.left c.args.right (pairs_of pool c.in-Inside.level)
    (λ none. absurd (omega (arith, c.requires))) c.in-Inside.ensures.found)) c.equal_pairs.ensures
