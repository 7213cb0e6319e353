-- What one byte of a quoted text does.
use Rattle.std.specs.Prelude.{ℕ, ◌<◌, List, Option, Some, None}
use Rattle.t3_asm_line.specs.Quoted.{text_from, text_end, with_byte}
use Rattle.t3_asm_line.specs.declared.quoted.Due.{Due}
use Rattle.t3_asm_line.specs.declared.quoted.Due.TheVariants.{AnyByte, Escape, FirstDigit, SecondDigit}
use Rattle.t3_asm_line.specs.declared.quoted.Turn.{Turn}
use Rattle.t3_asm_line.specs.declared.quoted.Turn.TheVariants.{NoText, Close, Give, Await}

-- the text that is said by what follows such a byte
abbrev pub text_behind : Turn → List ℕ → Option (List ℕ)
text_behind NoText bytes = None
text_behind Close bytes = text_end bytes
text_behind (Give byte) bytes = with_byte (Some byte) (text_from AnyByte bytes)
text_behind (Await due) bytes = text_from due bytes

-- a digit's value is below 16
abbrev pub IsDue : Due → Type 0
IsDue AnyByte = Unit {0}
IsDue Escape = Unit {0}
IsDue FirstDigit = Unit {0}
IsDue (SecondDigit high) = high < 16

abbrev pub TurnsWell : Turn → Type 0
TurnsWell NoText = Unit {0}
TurnsWell Close = Unit {0}
TurnsWell (Give byte) = byte < 256
TurnsWell (Await due) = IsDue due
