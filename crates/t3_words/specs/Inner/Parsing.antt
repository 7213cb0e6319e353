-- What the words give, part by part.
use Rattle.std.specs.Prelude.{◌≡◌, ℕ, ◌^◌, ◌&&◌, nat_le, nat_lt, List, [], ◌∷◌, Option, Some, None, if◌then◌else◌, IfSome}
use Rattle.std.specs.Option.{option_map}
use Rattle.std.specs.Fmt.{decimal}
use Rattle.std.specs.Str.{bytes_eq}
use Rattle.std.specs.Str.Parse.{digits_value}
use Rattle.t3_words.specs.declared.command.Command.{Command}
use Rattle.t3_words.specs.declared.options.NumberOption.{NumberOption as DeclaredOption}
use Rattle.t3_words.specs.Options.{NumberOption}
use Rattle.t3_words.specs.Command.{CommandValue, command_value, IsWellFormed}

-- the option that a row of the code's table stands for
abbrev pub row_value : DeclaredOption → NumberOption
row_value row = record { prefix = row.prefix.now; default = row.default; least = row.least; most = row.most }

-- the words were read as this command, or as none, and it is well formed
abbrev pub IsRead : Option CommandValue → Option Command → Type 0
IsRead expected result =
    (option_map command_value result ≡ expected) × IfSome result (λ command. IsWellFormed (command_value command))

-- the number that a text spells, from 1 on and below 2^32
abbrev pub positive_of : List ℕ → Option ℕ
positive_of text = let n = digits_value 10 text in if (bytes_eq text (decimal n) && nat_le 1 n) && nat_lt n (2 ^ 32) then Some n else None

-- the one value, if there is one; none where there are more
abbrev pub only_value : List (List ℕ) → Option (Option (List ℕ))
only_value [] = Some None
only_value (value ∷ []) = Some (Some value)
only_value (value ∷ more ∷ values) = None
