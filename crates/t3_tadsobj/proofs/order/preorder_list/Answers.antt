use Rattle.t3_tadsobj.proofs.OrderChains as chains
use Rattle.t3_tadsobj.proofs.order.preorder_list.Goals as goal

pub returns : goal.returns
returns c = record { live = chains.preorder_live; missing = chains.preorder_none }
