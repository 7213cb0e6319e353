-- Numbers of any length: decimal, with `-` if wished, or hexadecimal behind `0x`.
use Rattle.std.specs.Prelude.{ℕ, ℤ, pos, neg_ℤ, Bool, ◌&&◌, nat_lt, nat_eq, if◌then◌else◌, List, length, drop, codes, Option, Some, None}
use Rattle.std.specs.Char.{is_digit}
use Rattle.std.specs.List.{list_all, starts_with}
use Rattle.std.specs.Option.{option_map}
use Rattle.std.specs.Str.Parse.{digits_value}

-- one digit of the base or more, and nothing else
abbrev pub is_numeral : ℕ → List ℕ → Bool
is_numeral base digits = nat_lt 0 (length digits) && list_all (λ digit. is_digit digit base) digits

-- the number that digits say
abbrev pub natural_of : ℕ → List ℕ → Option ℕ
natural_of base digits = if is_numeral base digits then Some (digits_value base digits) else None

abbrev pub negated : ℕ → ℤ
negated n = neg_ℤ (pos n)

-- the number that a word says
unfoldable pub number_of : List ℕ → Option ℤ
number_of word =
    if starts_with nat_eq word (codes "0x") then option_map pos (natural_of 16 (drop 2 word))
    else (if starts_with nat_eq word (codes "-") then option_map negated (natural_of 10 (drop 1 word))
    else option_map pos (natural_of 10 word))
