use Rattle.std.proofs.Common.{◌≡◌, ap, ◌∙◌}
use Rattle.t3_load.specs.Symbols.{raw_of, firsts}
use Rattle.t3_load.specs.Names.{symbols_in}
use Rattle.t3_load.proofs.FirstSymbols.{raw_of-firsts}
use Rattle.t3_load.proofs.symbols.SymbolTable.of.Goals as goal
use Rattle.t3_load.proofs.symbols.SymbolTable.of.Goals.{In_ok-named}

same : (c : In_ok-named) → c.deref.result.now ≡ c.args.image.now.blocks
same c = cc (c.deref.ensures.value, c.image-inside.view_is, c.image.view_is)

pub returns-clause-table : goal.returns-clause-table
returns-clause-table c = c.in_ok-named.ensures ∙ ap (λ blocks. firsts (symbols_in blocks)) (same c)

pub returns-clause-named : goal.returns-clause-named
returns-clause-named c =
    λ name. ap (λ table. raw_of table name) c.in_ok-named.ensures ∙ raw_of-firsts (symbols_in c.deref.result.now) name
    ∙ ap (λ blocks. raw_of (symbols_in blocks) name) (same c)
