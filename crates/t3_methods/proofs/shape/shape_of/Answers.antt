use Rattle.t3_methods.proofs.Shapes.{shape_there}
use Rattle.t3_methods.proofs.shape.shape_of.Goals as goal

pub returns-in-Some : goal.returns-in-Some
returns-in-Some c = shape_there c.args.opcode _ c.in-Some.row c.in-Some.ensures
