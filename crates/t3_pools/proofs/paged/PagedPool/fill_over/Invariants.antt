use Rattle.std.proofs.Common.{◌≡◌, ◌<◌, ◌+◌, ◌^◌, take}
use Rattle.t3_pools.specs.Pool.{HasBytes}
use Rattle.t3_pools.proofs.paged.PagedPool.fill_over.Given as goal

-- the bytes that were written are those that stand
abbrev pub invariant-loop-slot : goal.invariant-loop-slot
invariant-loop-slot l = record {
  at : l.next ≡ l.address + l.slot-index;
  below : 0 < l.slot-index → l.next < 2 ^ 31;
  stands : HasBytes l.self.bytes l.address (take l.slot-index l.window);
}
