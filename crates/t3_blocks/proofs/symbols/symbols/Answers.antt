use Rattle.t3_blocks.proofs.Counted.{spells_symbols}
use Rattle.t3_blocks.proofs.symbols.symbols.Goals as goal

pub returns : goal.returns
returns c = spells_symbols c.args.payload.now c.in_ok-take_counted.field-0.items c.in_ok-take_counted.ensures
