use Rattle.std.proofs.Common.{◌≡◌, ◌≤◌, ◌-◌, ◌++◌, take, length}
use Rattle.t3_ops.specs.References.{bytes_of}
use Rattle.t3_ops.proofs.copying.append_text.Given as goal

abbrev pub invariant-pieces : goal.invariant-pieces
invariant-pieces l = record {
  appended : l.bytes.items ≡ l.initial.bytes.items ++ take l.at (bytes_of l.pools.constants l.text);
  within : l.at ≤ length (bytes_of l.pools.constants l.text);
}

abbrev pub decreases-pieces : goal.decreases-pieces
decreases-pieces l = length (bytes_of l.pools.constants l.text) - l.at
