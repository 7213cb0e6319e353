use Rattle.t3_store.proofs.InvariantKept.{kept-by_calls}
use Rattle.t3_store.proofs.law.invariant_law.Goals as goal

pub returns : goal.returns
returns g c = kept-by_calls g.I.ValueInvariant.holds
