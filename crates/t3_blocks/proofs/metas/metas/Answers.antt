use Rattle.t3_blocks.proofs.Counted.{spells_metas}
use Rattle.t3_blocks.proofs.metas.metas.Goals as goal

pub returns : goal.returns
returns c = spells_metas c.args.payload.now c.in_ok-take_counted.field-0.items c.in_ok-take_counted.ensures
