use Rattle.t3_blocks.specs.Spelling.{size_width}
use Rattle.t3_blocks.proofs.Splits.{at_none, no_static_number, no_static_size, no_static_bytes}
use Rattle.t3_blocks.proofs.objects.split_static.Goals as goal

pub returns-in_err-number : goal.returns-in_err-number
returns-in_err-number c =
    at_none _ _ _ c.from_residual.ensures (no_static_number (size_width c.args.flags) c.args.bytes.now c.in_err-number.ensures)

pub returns-in_err-size : goal.returns-in_err-size
returns-in_err-size c = at_none _ _ _ c.from_residual-in_err-size.ensures
    (no_static_size (size_width c.args.flags) c.args.bytes.now c.in_ok-number.rest.now c.in_ok-number.number c.in_ok-number.ensures.0
    c.in_ok-number.ensures.1 c.in_err-size.ensures)

pub returns-in_err-bytes : goal.returns-in_err-bytes
returns-in_err-bytes c = at_none _ _ _ c.from_residual-in_err-bytes.ensures
    (no_static_bytes (size_width c.args.flags) c.args.bytes.now c.in_ok-number.rest.now c.in_ok-size.rest.now c.in_ok-number.number
    c.in_ok-size.size c.in_ok-number.ensures.0 c.in_ok-number.ensures.1 c.in_ok-size.ensures.0 c.in_ok-size.ensures.1
    c.in_err-bytes.ensures.cases)
