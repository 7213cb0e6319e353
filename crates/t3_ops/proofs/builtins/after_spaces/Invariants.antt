use Rattle.std.proofs.Common.{◌≡◌, length}
use Rattle.t3_ops.specs.Builtins.{after_spaces}
use Rattle.t3_ops.proofs.builtins.after_spaces.Given as goal

abbrev pub invariant-loop-behind : goal.invariant-loop-behind
invariant-loop-behind l = after_spaces l.rest ≡ after_spaces l.fn.bytes

abbrev pub decreases-loop-behind : goal.decreases-loop-behind
decreases-loop-behind l = length l.rest
