-- A line as it is given, by whether it is UTF-8.
use Rattle.std.proofs.Common.{◌≡◌, ℕ, zero, suc, ◌<◌, if◌then◌else◌, List, [], ◌∷◌, map, ap, arith}
use Rattle.std.specs.Str.{IsUtf8, is_utf8, IsAscii}
use Rattle.std.proofs.lemmas.Bool.{false_from_ne_true}
use Rattle.std.proofs.lemmas.Bool.Decides.{nat_tests}
use Rattle.std.proofs.lemmas.Str.{IsUtf8-from_is_utf8, is_utf8-from_IsUtf8, IsUtf8-from_ascii}
use Rattle.t3_lines.specs.Lines.{plain, readable}

pub readable-utf8 : (line : List ℕ) → IsUtf8 line → readable line ≡ line
readable-utf8 line text = ap (λ is. if is then line else map plain line) (is_utf8-from_IsUtf8 line text)

pub readable-other : (line : List ℕ) → ¬ IsUtf8 line → readable line ≡ map plain line
readable-other line other =
    ap (λ is. if is then line else map plain line) (false_from_ne_true (is_utf8 line) (λ text. other (IsUtf8-from_is_utf8 line text)))

plain_below : (byte : ℕ) → plain byte < 128
plain_below byte = grind (arith, nat_tests)

plain_ascii : (line : List ℕ) → IsAscii (map plain line)
plain_ascii [] i = omega arith
plain_ascii (byte ∷ line) zero = plain_below byte
plain_ascii (byte ∷ line) (suc i) = plain_ascii line i

-- a line of which no byte from 128 up is left
pub plain-utf8 : (line : List ℕ) → IsUtf8 (map plain line)
plain-utf8 line = IsUtf8-from_ascii (map plain line) (plain_ascii line)
