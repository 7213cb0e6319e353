use Rattle.std.proofs.Common.{arith}
use Rattle.t3_methods.proofs.Windows.{number_at-is, number_at-missing}
use Rattle.t3_methods.proofs.window.Window.uint2.Goals as goal

pub returns-then-at-self : goal.returns-then-at-self
returns-then-at-self c =
    let enough = c.if-at-self.true in
    number_at-is 2 c.u16_at.result c.args.self.now.bytes.now c.args.at (omega (arith, c.u16_at.type_inv)) (omega arith) c.u16_at.ensures

pub returns-else-at-self : goal.returns-else-at-self
returns-else-at-self c = let past = c.if-at-self.false in number_at-missing 2 c.args.self.now.bytes.now c.args.at (omega arith)
