use Rattle.t3_blocks.proofs.Counted.{spells_functions}
use Rattle.t3_blocks.proofs.functions.functions.Goals as goal

pub returns : goal.returns
returns c = spells_functions c.args.payload.now c.in_ok-take_counted.field-0.items c.in_ok-take_counted.ensures
