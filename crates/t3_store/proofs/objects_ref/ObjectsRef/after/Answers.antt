use Rattle.std.proofs.Common.{◌∙◌, sym, arith}
use Rattle.std.specs.FinMap.{get}
use Rattle.t3_store.proofs.objects_ref.ObjectsRef.after.Goals as goal

pub returns-then-number-ge2147483647 : goal.returns-then-number-ge2147483647
returns-then-number-ge2147483647 c = λ q h. (λ i. get (sym c.self.view_is i) q) ∙ c.self.invariant q (omega (arith, c.if-number-ge2147483647.true))
