-- What stands in the fields of a line, counted from 0.
use Rattle.std.specs.Prelude.{ℕ, ◌-◌, ◌%◌, Bool, true, false, List, [], ◌++◌, length, take, replicate, slice_get, Option, Some, None}
use Rattle.t3_asm_line.specs.declared.argument.Argument.{Argument}
use Rattle.t3_asm_line.specs.declared.argument.Argument.TheVariants.{Number, Address, Offset, Text}
use Rattle.t3_asm_line.specs.declared.keyword.Keyword.{Keyword}
use Rattle.t3_asm_line.specs.declared.keyword.Keyword.TheVariants.{Prop}

-- a number has at most four bytes
abbrev pub number_in : Option Argument → ℕ
number_in None = 0
number_in (Some (Number n)) = n % 4294967296
number_in (Some (Address label)) = 0
number_in (Some (Offset label)) = 0
number_in (Some (Text text)) = 0

abbrev pub text_in : Option Argument → List ℕ
text_in None = []
text_in (Some (Number n)) = []
text_in (Some (Address label)) = []
text_in (Some (Offset label)) = []
text_in (Some (Text text)) = text

-- the number in a field; 0 where there is none
abbrev pub number_at : List Argument → ℕ → ℕ
number_at arguments at = number_in (slice_get arguments at)

-- the number in a field of two bytes
abbrev pub short_at : List Argument → ℕ → ℕ
short_at arguments at = number_at arguments at % 65536

-- the text in a field; nothing where there is none
abbrev pub text_at : List Argument → ℕ → List ℕ
text_at arguments at = text_in (slice_get arguments at)

-- it names a label by its address
abbrev pub is_address : Argument → Bool
is_address (Number n) = false
is_address (Address label) = true
is_address (Offset label) = false
is_address (Text text) = false

-- it names a label by its place in the method
abbrev pub is_offset : Argument → Bool
is_offset (Number n) = false
is_offset (Address label) = false
is_offset (Offset label) = true
is_offset (Text text) = false

-- bytes cut or filled up to so many
unfoldable pub resized : ℕ → ℕ → List ℕ → List ℕ
resized size fill bytes = take size bytes ++ replicate (size - length bytes) fill

-- the four bytes of a block's name
abbrev pub block_name : List Argument → List ℕ
block_name arguments = resized 4 0 (text_at arguments 0)

-- what a property has besides its number: nothing where its line says no more
abbrev pub extra_bytes : Keyword → List Argument → List ℕ
extra_bytes Prop arguments = []
extra_bytes keyword arguments = text_at arguments 1
