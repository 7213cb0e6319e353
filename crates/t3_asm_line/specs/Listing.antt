-- How a listing spells a line: the keyword and its fields, parted by one space. A listing has no labels and no numbers below 0.
use Rattle.std.specs.Prelude.{◌≡◌, ℕ, Bool, true, ◌==◌, ◌&&◌, nat_le, ◌≤◌, if◌then◌else◌, List, [], ◌∷◌, ◌++◌, length, codes}
use Rattle.std.specs.Fmt.{decimal}
use Rattle.std.specs.List.{flat_map}
use Rattle.hex.specs.Hex.{encode_lower}
use Rattle.t3_holder.specs.NumberText.{AreBytes}
use Rattle.t3_asm_line.specs.declared.argument.Argument.{Argument}
use Rattle.t3_asm_line.specs.declared.argument.Argument.TheVariants as arguments
use Rattle.t3_asm_line.specs.declared.field.Field.{Field}
use Rattle.t3_asm_line.specs.declared.field.Layout.{Layout}
use Rattle.t3_asm_line.specs.declared.field.Layout.TheVariants.{Number, Quoted, Hex}
use Rattle.t3_asm_line.specs.declared.keyword.Keyword.{Keyword}
use Rattle.t3_asm_line.specs.declared.keyword.Keyword.TheVariants.{Label, Instruction}
use Rattle.t3_asm_line.specs.declared.line.ParsedLine.{ParsedLine}
use Rattle.t3_asm_line.specs.Fields.{layout_of}
use Rattle.t3_asm_line.specs.Keywords.{name_of, fields_of}
use Rattle.t3_asm_line.specs.Values.{is_size}

-- 20 to 7E stand as they are
abbrev pub is_printable : ℕ → Bool
is_printable byte = nat_le 32 byte && nat_le byte 126

-- a byte of a quoted text: `"`, `\` and the newline have short escapes, and what isn't printable its two lower-case digits
abbrev pub escape_of : ℕ → List ℕ
escape_of byte =
    if byte == 34 then 92 ∷ 34 ∷ []
    else (if byte == 92 then 92 ∷ 92 ∷ []
    else (if byte == 10 then 92 ∷ 110 ∷ []
    else (if is_printable byte then byte ∷ [] else 92 ∷ 120 ∷ encode_lower (byte ∷ []))))

unfoldable pub quoted_text : List ℕ → List ℕ
quoted_text bytes = 34 ∷ (flat_map escape_of bytes ++ 34 ∷ [])

-- lower-case digits, or `-` for no bytes
unfoldable pub hex_text : List ℕ → List ℕ
hex_text [] = codes "-"
hex_text (byte ∷ bytes) = encode_lower (byte ∷ bytes)

-- an argument of a listing in its layout; nothing where it has none
abbrev pub spelled_in : Layout → Argument → List ℕ
spelled_in (Number width below most reference) (arguments.Number n) = decimal n
spelled_in (Quoted least most) (arguments.Text bytes) = quoted_text bytes
spelled_in (Hex least most) (arguments.Text bytes) = hex_text bytes
spelled_in layout argument = []

unfoldable pub spelled : Field → Argument → List ℕ
spelled field argument = spelled_in (layout_of field) argument

-- so many arguments, each behind a space
abbrev pub spelled_fields : List Field → List Argument → List ℕ
spelled_fields [] arguments = []
spelled_fields (field ∷ fields) [] = []
spelled_fields (field ∷ fields) (argument ∷ arguments) = 32 ∷ (spelled field argument ++ spelled_fields fields arguments)

-- a line without its newline
unfoldable pub listed_line : Keyword → List Argument → List ℕ
listed_line keyword arguments = name_of keyword ++ spelled_fields (fields_of keyword) arguments

-- an argument fits its layout in a listing
abbrev pub FitsIn : Layout → Argument → Type 0
FitsIn (Number width below most reference) (arguments.Number n) = n ≤ most
FitsIn (Quoted least most) (arguments.Text bytes) = AreBytes bytes × (is_size least most (length bytes) ≡ true)
FitsIn (Hex least most) (arguments.Text bytes) = AreBytes bytes × (is_size least most (length bytes) ≡ true)
FitsIn layout argument = ⊥

-- as many arguments as fields, and each fits
abbrev pub FitFields : List Field → List Argument → Type 0
FitFields [] [] = Unit {0}
FitFields [] (argument ∷ arguments) = ⊥
FitFields (field ∷ fields) [] = ⊥
FitFields (field ∷ fields) (argument ∷ arguments) = FitsIn (layout_of field) argument × FitFields fields arguments

-- a keyword of the table that begins a line by its name
abbrev pub IsNamed : Keyword → Type 0
IsNamed Label = ⊥
IsNamed (Instruction opcode) = ⊥
IsNamed keyword = Unit {0}

-- a listing may have this line
pub record IsListed (keyword : Keyword) (arguments : List Argument) : Type 0 where
  pub named : IsNamed keyword
  pub fit : FitFields (fields_of keyword) arguments

abbrev pub IsListedLine : ParsedLine → Type 0
IsListedLine line = IsListed line.keyword line.arguments

-- a listing: each line, and a newline behind it
abbrev pub listing_of : List ParsedLine → List ℕ
listing_of lines = flat_map (λ line. listed_line line.keyword line.arguments ++ 10 ∷ []) lines
