use Rattle.std.proofs.Common.{rules}
use Rattle.t3_pools.proofs.Utf8.{longest-utf8}
use Rattle.t3_pools.proofs.constants.whole_characters.Goals as goal

pub returns-in-Err : goal.returns-in-Err
returns-in-Err c = search (rules, longest-utf8, c.in-Err.ensures.cases.1)
