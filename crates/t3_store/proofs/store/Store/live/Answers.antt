use Rattle.std.proofs.Common.{◌∙◌, ap, sym, is_some}
use Rattle.t3_store.specs.Store.{value_at}
use Rattle.t3_store.proofs.Changes.{either-some, either-none}
use Rattle.t3_store.proofs.store.Store.live.Goals as goal

pub returns-then-has : goal.returns-then-has
returns-then-has c =
    c.has.ensures.value ∙ sym (ap is_some (either-some _ _ (sym c.has.ensures.value ∙ c.if-has.true)))
    ∙ λ i. is_some (value_at (c.self.view_is i).store c.args.number)

pub returns-else-has : goal.returns-else-has
returns-else-has c =
    c.has-else-has.ensures.value ∙ sym (ap is_some (either-none _ _ (sym c.has.ensures.value ∙ c.if-has.false)))
    ∙ λ i. is_some (value_at (c.self.view_is i).store c.args.number)
