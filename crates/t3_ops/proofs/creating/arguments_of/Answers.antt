use Rattle.std.proofs.Common.{arith}
use Rattle.t3_ops.proofs.Creations.{more-arguments}
use Rattle.t3_ops.proofs.creating.arguments_of.Goals as goal

pub returns-in_default : goal.returns-in_default
returns-in_default c = more-arguments c.args.args.now (omega arith)
