use Rattle.std.proofs.Common.{◌∙◌, sym}
use Rattle.t3_store.proofs.Rows.{index_of-at, index_of-none, numbered-less}
use Rattle.t3_store.proofs.entries.index_of.Goals as goal

pub returns-then-is_at-clause-index : goal.returns-then-is_at-clause-index
returns-then-is_at-clause-index c =
    sym (index_of-at c.args.number c.args.entries.now c.likely_index-index.result c.requires (sym c.is_at.ensures ∙ c.if-is_at.true))

pub returns-then-is_at-clause-bound : goal.returns-then-is_at-clause-bound
returns-then-is_at-clause-bound c = numbered-less c.args.number c.args.entries.now _ (sym c.is_at.ensures ∙ c.if-is_at.true)

pub returns-then-is_at-2-clause-index : goal.returns-then-is_at-2-clause-index
returns-then-is_at-2-clause-index c =
    sym (index_of-at c.args.number c.args.entries.now c.bound_of-index.result c.requires (sym c.is_at-2.ensures ∙ c.if-is_at-2.true))

pub returns-then-is_at-2-clause-bound : goal.returns-then-is_at-2-clause-bound
returns-then-is_at-2-clause-bound c = numbered-less c.args.number c.args.entries.now _ (sym c.is_at-2.ensures ∙ c.if-is_at-2.true)

pub returns-clause-index : goal.returns-clause-index
returns-clause-index c =
    sym (index_of-none c.args.number c.args.entries.now c.bound_of-index.result c.requires c.bound_of-index.ensures.below
    c.bound_of-index.ensures.above (sym c.is_at-2.ensures ∙ c.if-is_at-2.false))
