use Rattle.t3_pools.proofs.Lists.{holder_in-stands, stands-holder_in}
use Rattle.t3_pools.proofs.laws.constant_holder.Goals as goal

pub returns-clause-read : goal.returns-clause-read
returns-clause-read c = holder_in-stands

pub returns-clause-stands : goal.returns-clause-stands
returns-clause-stands c = stands-holder_in
