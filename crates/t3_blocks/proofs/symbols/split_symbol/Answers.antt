use Rattle.t3_blocks.proofs.Splits.{at_none, no_raw, no_symbol_name}
use Rattle.t3_blocks.proofs.symbols.split_symbol.Goals as goal

pub returns-in_err-raw : goal.returns-in_err-raw
returns-in_err-raw c = at_none _ _ _ c.from_residual.ensures (no_raw c.args.bytes.now c.in_err-raw.ensures)

pub returns-in_err-name : goal.returns-in_err-name
returns-in_err-name c = at_none _ _ _ c.from_residual-in_err-name.ensures
    (no_symbol_name c.args.bytes.now c.in_ok-raw.rest.now c.in_ok-raw.raw c.in_ok-raw.ensures.0 c.in_ok-raw.ensures.1 c.in_err-name.ensures)
