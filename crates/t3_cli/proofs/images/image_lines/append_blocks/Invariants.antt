use Rattle.std.specs.Prelude.{string_bytes}
use Rattle.t3_cli.proofs.Lining.{AreLinedUpTo}
use Rattle.t3_cli.proofs.images.image_lines.append_blocks.Given as goal

abbrev pub invariant-loop-placed : goal.invariant-loop-placed
invariant-loop-placed l = AreLinedUpTo l.first l.place l.placed-index l.placed-items (string_bytes l.fn.out) (string_bytes l.out)
