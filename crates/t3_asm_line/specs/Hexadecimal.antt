-- HEX: the bytes that pairs of hexadecimal digits say, or `-` for none.
use Rattle.std.specs.Prelude.{ℕ, if◌then◌else◌, List, [], Option, Some, codes}
use Rattle.std.specs.Result.{result_ok}
use Rattle.std.specs.Str.{bytes_eq}
use Rattle.hex.specs.Hex.{decode_of}

unfoldable pub hex_of : List ℕ → Option (List ℕ)
hex_of word = if bytes_eq word (codes "-") then Some [] else result_ok (decode_of word)
