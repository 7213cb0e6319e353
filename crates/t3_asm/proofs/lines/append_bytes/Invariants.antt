use Rattle.std.proofs.Common.{◌≡◌, ◌++◌, length}
use Rattle.t3_asm_line.specs.Listing.{listing_of}
use Rattle.t3_asm.specs.Listing.{bytes_lines}
use Rattle.t3_asm.proofs.lines.append_bytes.Given as goal

abbrev pub invariant-loop-rest : goal.invariant-loop-rest
invariant-loop-rest l =
    l.out.items ++ listing_of (bytes_lines l.rest) ≡ l.fn.out.items ++ listing_of (bytes_lines l.bytes)

abbrev pub decreases-loop-rest : goal.decreases-loop-rest
decreases-loop-rest l = length l.rest
