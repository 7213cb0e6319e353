use Rattle.std.proofs.Common.{◌≡◌, ◌<◌, ◌+◌, ◌^◌, length, take}
use Rattle.t3_holder.specs.NumberText.{AreBytes}
use Rattle.t3_pools.specs.Pool.{HasBytes}
use Rattle.t3_methods.proofs.window.gather_each.Given as goal

-- the bytes so far stand, and behind them those that are left of their page
abbrev pub invariant-loop-count : goal.invariant-loop-count
invariant-loop-count l = record {
  below : 0 < l.count → l.address + l.count < 2 ^ 31;
  long : length l.room ≡ 10;
  are : AreBytes (take l.count l.room);
  stands : HasBytes l.pools.code l.address (take l.count l.room);
  rest_are : AreBytes l.rest;
  rest_stands : HasBytes l.pools.code (l.address + l.count) l.rest;
  rest_bounded : 0 < length l.rest → l.address + l.count + length l.rest < 2 ^ 31;
}
