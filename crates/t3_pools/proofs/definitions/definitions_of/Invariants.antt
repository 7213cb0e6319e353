use Rattle.std.proofs.Common.{◌≡◌, ◌++◌, drop}
use Rattle.t3_pools.specs.Pool.{said_of}
use Rattle.t3_pools.specs.Finding.{listed}
use Rattle.t3_pools.specs.Inner.Gathering.{defined}
use Rattle.t3_pools.proofs.definitions.definitions_of.Given as goal

-- what was found and what is left are all
abbrev pub invariant-loop-placed : goal.invariant-loop-placed
invariant-loop-placed l =
    listed (defined l.number) l.found ++ (said_of l.number (drop l.placed-index l.blocks)).definitions ≡
    (said_of l.number l.blocks).definitions
