use Rattle.std.proofs.Common.{◌≡◌, drop}
use Rattle.t3_load.specs.Names.{symbols_in}
use Rattle.t3_load.specs.Inner.Listing.{listed}
use Rattle.t3_load.specs.Symbols.{firsts, firsts_after}
use Rattle.t3_load.proofs.symbols.named.Given as goal

-- what is left is still to be added
abbrev pub invariant-loop-placed : goal.invariant-loop-placed
invariant-loop-placed l =
    firsts (symbols_in l.blocks) ≡ firsts_after (listed l.named.entries) (symbols_in (drop l.placed-index l.blocks))
