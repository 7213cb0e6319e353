use Rattle.std.proofs.Common.{◌-◌, length}
use Rattle.t3_blocks.specs.Inner.Lists.{HasTaken}
use Rattle.t3_blocks.proofs.layout.take_items.Given as goal

abbrev pub invariant-loop-alloc : goal.invariant-loop-alloc
invariant-loop-alloc g l = HasTaken (g.L.Layout.text l.layout) (g.L.Layout.fits l.layout) l.due l.fn.bytes l.items.items l.rest

abbrev pub decreases-loop-alloc : goal.decreases-loop-alloc
decreases-loop-alloc g l = l.due - length l.items.items
