use Rattle.std.proofs.Common.{ℕ, Option, subst, sym, rules}
use Rattle.t3_pools.specs.Inner.Reading.{TextAnswer}
use Rattle.t3_pools.proofs.Texts.{text-gap, text-unfit, text-found}
use Rattle.t3_pools.proofs.paged.PagedPool.text_at.Goals as goal

pub returns-in_err-length-clause-answer : goal.returns-in_err-length-clause-answer
returns-in_err-length-clause-answer c =
    subst (λ (found : Option (ℕ × ℕ)). TextAnswer c.args.self.now.bytes c.args.address found) (sym c.from_residual.ensures)
    (text-gap c.args.self.now.bytes c.args.address c.in_err-length.ensures.reads)

pub returns-then-is_text-clause-answer : goal.returns-then-is_text-clause-answer
returns-then-is_text-clause-answer c = search (rules, text-found)

pub returns-else-is_text-clause-answer : goal.returns-else-is_text-clause-answer
returns-else-is_text-clause-answer c = search (rules, text-unfit)
