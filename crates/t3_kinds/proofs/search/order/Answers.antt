use Rattle.t3_kinds.proofs.Searching.{ok_order}
use Rattle.t3_kinds.proofs.search.order.Goals as goal

pub linear_order-requires : goal.linear_order-requires
linear_order-requires c = c.objects.ensures.acyclic c.args.number

pub returns : goal.returns
returns c =
    ok_order c.args.store.now.store c.args.number c.linear_order.result (c.objects.ensures.acyclic c.args.number) c.linear_order.ensures
