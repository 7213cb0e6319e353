use Rattle.t3_kinds.proofs.Searching.{order_is, same_order}
use Rattle.t3_kinds.proofs.law.search_order.Goals as goal

pub returns-clause-is : goal.returns-clause-is
returns-clause-is c = order_is

pub returns-clause-one : goal.returns-clause-one
returns-clause-one c = same_order
