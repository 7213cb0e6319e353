use Rattle.std.proofs.Common.{take}
use Rattle.std.specs.List.{flat_map}
use Rattle.t3_asm_line.specs.Listing.{escape_of}
use Rattle.t3_asm_line.proofs.Appended.{Appends-after}
use Rattle.t3_asm_line.proofs.listing.append_escapes.Goals as goal

pub returns-in_err-append_escape : goal.returns-in_err-append_escape
returns-in_err-append_escape c =
    Appends-after c.args.out.now.items c.loop-byte.out.items c.append_escape.new.out.items
    (flat_map escape_of (take c.loop-byte.byte-index c.args.text.now)) _ c.from_residual.result c.from_residual.ensures.0 c.loop-byte.invariant
    c.in_err-append_escape.ensures
