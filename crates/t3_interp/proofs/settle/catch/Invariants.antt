use Rattle.std.proofs.Common.{◌≡◌, length}
use Rattle.t3_interp.specs.Step.{catcher_in}
use Rattle.t3_interp.specs.Inner.Acting.{each_frame}
use Rattle.t3_interp.proofs.settle.catch.Given as goal

-- no frame that is gone catches
abbrev pub invariant-loop-handler : goal.invariant-loop-handler
invariant-loop-handler l =
    catcher_in l.pools.code l.classes (each_frame l.initial.frames) ≡ catcher_in l.pools.code l.classes (each_frame l.frames)

abbrev pub decreases-loop-handler : goal.decreases-loop-handler
decreases-loop-handler l = length l.frames.older
