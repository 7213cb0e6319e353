use Rattle.t3_object_tests.proofs.OrderRising.{rising_acyclic}
use Rattle.t3_object_tests.proofs.orders.order_of.Goals as goal

pub linear_order-requires : goal.linear_order-requires
linear_order-requires c = rising_acyclic c.args.objects.now.lists.items c.args.number
