-- Which data holder a name stands for.
use Rattle.std.specs.Prelude.{ℕ, List, [], ◌∷◌, ◌++◌, Option, option_map, fold, is_some, if◌then◌else◌}
use Rattle.std.specs.List.{find}
use Rattle.std.specs.Str.{bytes_eq}
use Rattle.t3_blocks.specs.declared.items.Symbol.{Symbol}
use Rattle.t3_holder.specs.declared.holder.Raw.{Raw}

-- the data holder of the first symbol with a name
abbrev pub raw_of : List Symbol → List ℕ → Option Raw
raw_of symbols name = option_map (λ symbol. symbol.raw) (find (λ symbol. bytes_eq name symbol.name) symbols)

-- symbols with a further one, if its name isn't there
abbrev pub with_first : List Symbol → Symbol → List Symbol
with_first symbols symbol = if is_some (raw_of symbols symbol.name) then symbols else symbols ++ symbol ∷ []

-- symbols with further ones, of each name the first
abbrev pub firsts_after : List Symbol → List Symbol → List Symbol
firsts_after symbols more = fold with_first symbols more

abbrev pub firsts : List Symbol → List Symbol
firsts symbols = firsts_after [] symbols
