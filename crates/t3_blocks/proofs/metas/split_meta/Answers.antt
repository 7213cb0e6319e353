use Rattle.t3_blocks.proofs.Splits.{at_none, no_meta_count, no_meta_size}
use Rattle.t3_blocks.proofs.metas.split_meta.Goals as goal

pub returns-in_err-count : goal.returns-in_err-count
returns-in_err-count c = at_none _ _ _ c.from_residual-in_err-count.ensures
    (no_meta_count c.args.body.now c.in_ok-name.rest.now c.in_ok-name.name.now c.in_ok-name.ensures.0 c.in_ok-name.ensures.1
    c.in_err-count.ensures)

pub returns-in_err-property_size : goal.returns-in_err-property_size
returns-in_err-property_size c = at_none _ _ _ c.from_residual-in_err-property_size.ensures
    (no_meta_size c.args.body.now c.in_ok-name.rest.now c.in_ok-count.rest.now c.in_ok-name.name.now c.in_ok-count.count
    c.in_ok-name.ensures.0 c.in_ok-name.ensures.1 c.in_ok-count.ensures.0 c.in_ok-count.ensures.1 c.in_err-property_size.ensures)
