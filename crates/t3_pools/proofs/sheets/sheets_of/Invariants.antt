use Rattle.std.proofs.Common.{◌≡◌, ◌++◌, drop, map}
use Rattle.t3_pools.specs.Pool.{said_of}
use Rattle.t3_pools.specs.Inner.Gathering.{paged}
use Rattle.t3_pools.proofs.sheets.sheets_of.Given as goal

-- what was found and what is left are all
abbrev pub invariant-loop-placed : goal.invariant-loop-placed
invariant-loop-placed l =
    map (paged l.number) l.sheets.items ++ (said_of l.number (drop l.placed-index l.blocks)).pages ≡ (said_of l.number l.blocks).pages
