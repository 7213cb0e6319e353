use Rattle.std.proofs.Common.{arith}
use Rattle.t3_methods.proofs.Windows.{number_at-one, number_at-missing}
use Rattle.t3_methods.proofs.window.Window.ubyte.Goals as goal

pub returns-then-at-self : goal.returns-then-at-self
returns-then-at-self c = let less = c.if-at-self.true in number_at-one c.args.self.now.bytes.now c.args.at (omega arith)

pub returns-else-at-self : goal.returns-else-at-self
returns-else-at-self c = let past = c.if-at-self.false in number_at-missing 1 c.args.self.now.bytes.now c.args.at (omega arith)
