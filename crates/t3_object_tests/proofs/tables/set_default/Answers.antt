use Rattle.std.proofs.Common.{ap, is_some}
use Rattle.t3_tables.proofs.Defaults.{stamp-default}
use Rattle.t3_object_tests.proofs.tables.set_default.Goals as goal

pub put-requires-clause-place : goal.put-requires-clause-place
put-requires-clause-place c = ap is_some (stamp-default c.args.table.now.places c.args.table.now.default_stamp)
