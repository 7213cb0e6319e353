use Rattle.std.proofs.Common.{arith}
use Rattle.t3_asm.proofs.Sizing.{length-content_text}
use Rattle.t3_asm.proofs.content.content_measure.Goals as goal

pub returns : goal.returns
returns c labels = omega (arith, length-content_text labels c.args.item.now, c.put_size.ensures)
