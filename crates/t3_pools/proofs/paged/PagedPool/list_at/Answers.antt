use Rattle.std.proofs.Common.{ℕ, Option, subst, sym, rules}
use Rattle.t3_pools.specs.Inner.Reading.{ListAnswer}
use Rattle.t3_pools.proofs.Lists.{list-gap, list-unfit, list-found}
use Rattle.t3_pools.proofs.paged.PagedPool.list_at.Goals as goal

pub returns-in_err-count-clause-answer : goal.returns-in_err-count-clause-answer
returns-in_err-count-clause-answer c =
    subst (λ (found : Option (ℕ × ℕ)). ListAnswer c.args.self.now.bytes c.args.address found) (sym c.from_residual.ensures)
    (list-gap c.args.self.now.bytes c.args.address c.in_err-count.ensures.reads)

pub returns-then-has_holders-clause-answer : goal.returns-then-has_holders-clause-answer
returns-then-has_holders-clause-answer c = search (rules, list-found)

pub returns-else-has_holders-clause-answer : goal.returns-else-has_holders-clause-answer
returns-else-has_holders-clause-answer c = search (rules, list-unfit)
