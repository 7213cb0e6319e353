use Rattle.std.proofs.Common.{◌≡◌, drop}
use Rattle.t3_load.specs.Inner.Listing.{listed}
use Rattle.t3_load.specs.Symbols.{firsts_after}
use Rattle.t3_load.proofs.symbols.add_symbols.Given as goal

-- what is left is still to be added
abbrev pub invariant-loop-symbol : goal.invariant-loop-symbol
invariant-loop-symbol l =
    firsts_after (listed l.fn.named.entries) l.symbols ≡ firsts_after (listed l.named.entries) (drop l.symbol-index l.symbols)
