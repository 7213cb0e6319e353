use Rattle.std.proofs.Common.{arith}
use Rattle.t3_methods.proofs.Windows.{AreBytes-each}
use Rattle.t3_methods.proofs.window.Window.new.Goals as goal

pub returns-clause-are : goal.returns-clause-are
returns-clause-are c = AreBytes-each c.args.bytes.now (λ i. omega (arith, c.type_inv.bytes i))
