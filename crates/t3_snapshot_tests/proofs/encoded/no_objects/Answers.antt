use Rattle.std.proofs.Common.{arith}
use Rattle.t3_snapshot_tests.proofs.OneObject.{none_savable}
use Rattle.t3_snapshot_tests.proofs.encoded.no_objects.Goals as goal

pub encode-requires : goal.encode-requires
encode-requires c = c.savable_objects.ensures _ 1 (none_savable 1 c.new-state.result c.new-state.ensures (omega arith))
