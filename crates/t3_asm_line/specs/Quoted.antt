-- Quoted texts, and their escapes.
use Rattle.std.specs.Prelude.{ℕ, ◌+◌, ◌*◌, ◌==◌, if◌then◌else◌, List, [], ◌∷◌, Option, Some, None, option_and_then}
use Rattle.std.specs.Option.{option_map}
use Rattle.hex.specs.Hex.{hex_digit_value}
use Rattle.t3_asm_line.specs.declared.quoted.Due.{Due}
use Rattle.t3_asm_line.specs.declared.quoted.Due.TheVariants.{AnyByte, Escape, FirstDigit, SecondDigit}

-- the byte that stands for itself or for a newline behind `\`
abbrev pub escaped_byte : ℕ → Option ℕ
escaped_byte byte =
    if byte == 34 then Some 34 else (if byte == 92 then Some 92 else (if byte == 110 then Some 10 else None))

-- a text's end is its last byte
abbrev pub text_end : List ℕ → Option (List ℕ)
text_end [] = Some []
text_end (byte ∷ bytes) = None

-- a byte of the text, and the text behind it
abbrev pub with_byte : Option ℕ → Option (List ℕ) → Option (List ℕ)
with_byte None text = None
with_byte (Some byte) text = option_map (λ bytes. byte ∷ bytes) text

-- the text that these bytes say, up to the `"` that is the last of them, where this is due first
abbrev pub text_from : Due → List ℕ → Option (List ℕ)
text_from due [] = None
text_from AnyByte (byte ∷ bytes) =
    if byte == 34 then text_end bytes
    else (if byte == 92 then text_from Escape bytes else with_byte (Some byte) (text_from AnyByte bytes))
text_from Escape (byte ∷ bytes) =
    if byte == 120 then text_from FirstDigit bytes else with_byte (escaped_byte byte) (text_from AnyByte bytes)
text_from FirstDigit (digit ∷ bytes) = option_and_then (λ high. text_from (SecondDigit high) bytes) (hex_digit_value digit)
text_from (SecondDigit high) (digit ∷ bytes) =
    with_byte (option_map (λ low. high * 16 + low) (hex_digit_value digit)) (text_from AnyByte bytes)

-- the text that a word says between `"` and `"`
unfoldable pub quoted_of : List ℕ → Option (List ℕ)
quoted_of [] = None
quoted_of (byte ∷ bytes) = if byte == 34 then text_from AnyByte bytes else None
