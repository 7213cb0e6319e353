use Rattle.std.proofs.Common.{take}
use Rattle.std.specs.List.{flat_map}
use Rattle.t3_holder.specs.NumberText.{little_endian}
use Rattle.t3_blocks.proofs.Appending.{is_kept}
use Rattle.t3_blocks.proofs.parts.append_numbers.Goals as goal

pub returns-in_err-append_u16 : goal.returns-in_err-append_u16
returns-in_err-append_u16 c =
    is_kept c.args.out.now.items c.loop-number.out.items c.append_u16.new.out.items
    (flat_map (little_endian 2) (take c.loop-number.number-index c.args.numbers.now))
    (flat_map (little_endian 2) c.args.numbers.now) c.from_residual.result c.from_residual.ensures.0 c.loop-number.invariant
    c.in_err-append_u16.ensures
