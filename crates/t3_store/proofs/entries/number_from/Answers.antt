use Rattle.t3_store.proofs.FirstFrom.{first-from, none-from, slice_get-at, slice_get-past}
use Rattle.t3_store.proofs.entries.number_from.Goals as goal

pub returns-then-index-entries : goal.returns-then-index-entries
returns-then-index-entries c =
    first-from c.args.entries.now c.bound_of-index.result c.args.least _ c.requires c.bound_of-index.ensures.below
    c.bound_of-index.ensures.above (slice_get-at c.args.entries.now c.bound_of-index.result _ c.if-index-entries.true)

pub returns-else-index-entries : goal.returns-else-index-entries
returns-else-index-entries c =
    none-from c.args.entries.now c.bound_of-index.result c.args.least c.requires c.bound_of-index.ensures.below
    (slice_get-past c.args.entries.now c.bound_of-index.result c.if-index-entries.false)
