use Rattle.std.proofs.Common.{arith}
use Rattle.t3_asm.proofs.draft.Draft.place.Goals as goal

pub returns-clause-near : goal.returns-clause-near
returns-clause-near c line first reached = omega (arith, c.end.ensures.near line reached, c.of_line.ensures.near)
