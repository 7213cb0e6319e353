use Rattle.t3_methods.proofs.Shapes.{name_found}
use Rattle.t3_methods.proofs.shape.opcode_named.Goals as goal

pub returns-then-is_named : goal.returns-then-is_named
returns-then-is_named c = name_found c.loop-code.code c.args.name.now c.if-is_named.ensures
