use Rattle.std.proofs.Common.{◌≡◌, ◌≤◌, ◌^◌, drop}
use Rattle.t3_ops.specs.Builtins.{leading_number_of}
use Rattle.t3_ops.proofs.builtins.leading_number.Given as goal

abbrev pub invariant-loop-byte : goal.invariant-loop-byte
invariant-loop-byte l = record {
  same : leading_number_of l.value (drop l.byte-index l.bytes) ≡ leading_number_of 0 l.bytes;
  small : l.value ≤ 2 ^ 31;
}
