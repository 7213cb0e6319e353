use Rattle.std.proofs.Common.{rules}
use Rattle.t3_drill.proofs.Texts.{code_text}
use Rattle.t3_drill.proofs.code.code.Goals as goal

pub returns : goal.returns
returns c = rw (code_text c.args.number) (search rules)
