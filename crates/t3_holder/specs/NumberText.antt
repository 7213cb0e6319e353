-- Numbers as bytes, lowest first, as all integers of an image stand (the chapter on the image format).
use Rattle.std.specs.Prelude.{◌≡◌, ℕ, ℤ, pos, negsuc, zero, suc, ◌+◌, ◌-◌, ◌*◌, ◌/◌, ◌%◌, ◌^◌, ◌<◌, List, [], ◌∷◌, length}
use Rattle.std.specs.List.{AllByRecursion}

-- the number in so many bytes, its lowest byte first; what doesn't fit them is left out
unfoldable pub little_endian : ℕ → ℕ → List ℕ
little_endian zero n = []
little_endian (suc width) n = n % 256 ∷ little_endian width (n / 256)

-- a signed number in so many bytes, as an unsigned one: two's complement adds a power of 256 to what is negative
abbrev pub twos_complement : ℕ → ℤ → ℕ
twos_complement width (pos n) = n
twos_complement width (negsuc n) = 256 ^ width - suc n

-- the sum of the bytes, where byte i counts 256 to the power i
abbrev pub value_of : List ℕ → ℕ
value_of [] = 0
value_of (byte ∷ bytes) = byte + 256 * value_of bytes

-- all of these are bytes
abbrev pub AreBytes : List ℕ → Type 0
AreBytes bytes = AllByRecursion (λ byte. byte < 256) bytes

-- the text is bytes, so many of them, and says this number
pub record IsNumberText (width n : ℕ) (text : List ℕ) : Type 0 where
  pub wide : length text ≡ width
  pub bytes : AreBytes text
  pub value : value_of text ≡ n
