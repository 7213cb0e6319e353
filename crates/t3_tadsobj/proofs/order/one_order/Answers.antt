use Rattle.t3_tadsobj.proofs.OrderChains as chains
use Rattle.t3_tadsobj.proofs.order.one_order.Goals as goal

pub returns : goal.returns
returns c = record { some = chains.some_order; one = chains.one_order }
