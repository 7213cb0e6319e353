use Rattle.t3_tadsobj.proofs.OrderChains.{order_missing, order_last, order_step, order_chain}
use Rattle.t3_tadsobj.proofs.order.order_along_chain.Goals as goal

pub returns : goal.returns
returns c = record { missing = order_missing; last = order_last; step = order_step; chain = order_chain }
