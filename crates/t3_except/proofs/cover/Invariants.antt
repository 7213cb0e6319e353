use Rattle.std.proofs.Common.{◌≡◌, reverse, take, ◌≤◌, length}
use Rattle.t3_except.specs.Covering.{covered}
use Rattle.t3_except.proofs.cover.Given as goal

-- the newer spots don't catch
abbrev pub invariant-loop-left : goal.invariant-loop-left
invariant-loop-left l = record {
  rest : covered l.pools.code l.matches (reverse l.spots) ≡ covered l.pools.code l.matches (reverse (take l.left l.spots));
  within : l.left ≤ length l.spots;
}

abbrev pub decreases-loop-left : goal.decreases-loop-left
decreases-loop-left l = l.left
