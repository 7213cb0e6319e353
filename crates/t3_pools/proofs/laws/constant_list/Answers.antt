use Rattle.t3_pools.proofs.Lists.{list_in-stands, stands-list_in}
use Rattle.t3_pools.proofs.laws.constant_list.Goals as goal

pub returns-clause-read : goal.returns-clause-read
returns-clause-read c = list_in-stands

pub returns-clause-stands : goal.returns-clause-stands
returns-clause-stands c = stands-list_in
