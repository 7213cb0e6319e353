-- The numbers of words: decimal digits without a sign or a leading zero.
use Rattle.std.specs.Prelude.{ℕ, ◌^◌, ◌&&◌, nat_le, nat_lt, List, Option, Some, None, if◌then◌else◌}
use Rattle.std.specs.Option.{option_and_then}
use Rattle.std.specs.Fmt.{decimal}
use Rattle.std.specs.Str.{bytes_eq}
use Rattle.std.specs.Str.Parse.{digits_value}

-- the number that the digits of a text say, where the text is its spelling and it is below 2^32
abbrev pub spelled_number : List ℕ → Option ℕ
spelled_number text = let n = digits_value 10 text in if bytes_eq text (decimal n) && nat_lt n (2 ^ 32) then Some n else None

abbrev pub when_within : (least most n : ℕ) → Option ℕ
when_within least most n = if nat_le least n && nat_le n most then Some n else None

-- and where it is from the least to the most
abbrev pub number_within : (least most : ℕ) → List ℕ → Option ℕ
number_within least most text = option_and_then (when_within least most) (spelled_number text)
