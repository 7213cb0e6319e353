use Rattle.std.proofs.Common.{◌≡◌, ◌-◌, ◌≤◌, ◌++◌, length, take}
use Rattle.t3_image_read.specs.Inner.Steps.{stream_of, IsSound}
use Rattle.t3_image_read.proofs.reader.feed_blocks.Given as goal

abbrev pub invariant-loop-at : goal.invariant-loop-at
invariant-loop-at g l = record {
  within : l.at ≤ length l.piece;
  sound : IsSound l.taker;
  taken : g.S.BlockSink.has_taken l.sink l.taker.blocks;
  so_far : stream_of l.taker ≡ stream_of l.fn.taker ++ take l.at l.piece;
}

abbrev pub decreases-loop-at : goal.decreases-loop-at
decreases-loop-at g l = length l.piece - l.at
