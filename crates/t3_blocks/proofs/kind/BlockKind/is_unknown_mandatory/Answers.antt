use Rattle.std.proofs.Common.{sym}
use Rattle.t3_blocks.proofs.BlockNames.{known_name, known_not_refused}
use Rattle.t3_blocks.proofs.kind.BlockKind.is_unknown_mandatory.Goals as goal

pub returns-in_default : goal.returns-in_default
returns-in_default c name has = sym (known_not_refused name c.args.flags (known_name name c.args.self has c.in_default.not-Unknown))
