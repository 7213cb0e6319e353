use Rattle.std.proofs.Common.{arith}
use Rattle.t3_asm.proofs.Reached.{joined_reached}
use Rattle.t3_asm.proofs.draft.Draft.with_parsed.Goals as goal

pub returns-clause-reached : goal.returns-clause-reached
returns-clause-reached c =
    joined_reached c.args.line c.args.self _ c.joined.result c.joined.ensures c.requires.reached
    (record { before = omega arith; near = c.place-place.ensures.near c.args.line c.requires.first c.requires.reached })
