-- What words say in the fields of a line.
use Rattle.std.specs.Prelude.{◌≡◌, ℕ, ℤ, pos, negsuc, Bool, true, ◌&&◌, ◌==◌, nat_le, nat_lt, if◌then◌else◌, List, [], ◌∷◌, length, Option, Some, None, Result, Ok, Err}
use Rattle.t3_holder.specs.NumberText.{twos_complement}
use Rattle.t3_asm_line.specs.declared.argument.Argument.{Argument}
use Rattle.t3_asm_line.specs.declared.argument.Argument.TheVariants as arguments
use Rattle.t3_asm_line.specs.declared.field.Field.{Field}
use Rattle.t3_asm_line.specs.declared.field.Layout.{Layout}
use Rattle.t3_asm_line.specs.declared.field.Layout.TheVariants.{Number, Quoted, Hex}
use Rattle.t3_asm_line.specs.declared.field.Reference.{Reference}
use Rattle.t3_asm_line.specs.declared.field.Reference.TheVariants.{Nothing, Address, Offset}
use Rattle.t3_asm_line.specs.declared.refusal.LineRefusal.{LineRefusal}
use Rattle.t3_asm_line.specs.declared.refusal.LineRefusal.TheVariants as refusals
use Rattle.t3_asm_line.specs.Fields.{layout_of}
use Rattle.t3_asm_line.specs.Hexadecimal.{hex_of}
use Rattle.t3_asm_line.specs.Labels.{is_label}
use Rattle.t3_asm_line.specs.Numbers.{number_of}
use Rattle.t3_asm_line.specs.Quoted.{quoted_of}

-- a number is at most so far below 0, and at most this
abbrev pub holds : ℕ → ℕ → ℤ → Bool
holds below most (pos n) = nat_le n most
holds below most (negsuc n) = nat_lt n below

-- a label behind the mark of what may be named
abbrev pub reference_value : Reference → List ℕ → Result Argument LineRefusal
reference_value reference [] = Err refusals.Number
reference_value Nothing (mark ∷ label) = Err refusals.Number
reference_value Address (mark ∷ label) = if mark == 64 && is_label label then Ok (arguments.Address label) else Err refusals.Number
reference_value Offset (mark ∷ label) = if mark == 126 && is_label label then Ok (arguments.Offset label) else Err refusals.Number

-- a number that the field holds, as the bits of so many bytes; what is no number may be a label
abbrev pub number_value : ℕ → ℕ → ℕ → Reference → List ℕ → Option ℤ → Result Argument LineRefusal
number_value width below most reference word None = reference_value reference word
number_value width below most reference word (Some z) =
    if holds below most z then Ok (arguments.Number (twos_complement width z)) else Err refusals.Range

-- a text of a size that the field holds
abbrev pub text_value : (ℕ → Bool) → Option (List ℕ) → Result Argument LineRefusal
text_value fits None = Err refusals.Number
text_value fits (Some text) = if fits (length text) then Ok (arguments.Text text) else Err refusals.Range

abbrev pub is_at_most : Option ℕ → ℕ → Bool
is_at_most None n = true
is_at_most (Some most) n = nat_le n most

-- a size from this on, up to another where there is one
abbrev pub is_size : ℕ → Option ℕ → ℕ → Bool
is_size least most n = nat_le least n && is_at_most most n

abbrev pub value_in : Layout → List ℕ → Result Argument LineRefusal
value_in (Number width below most reference) word = number_value width below most reference word (number_of word)
value_in (Quoted least most) word = text_value (is_size least most) (quoted_of word)
value_in (Hex least most) word = text_value (is_size least most) (hex_of word)

-- what a word says in a field, or which rule it breaks
unfoldable pub value_of : Field → List ℕ → Result Argument LineRefusal
value_of field word = value_in (layout_of field) word

-- a value in front of others: a word that says none comes before a value out of range, wherever they stand
abbrev pub joined : Result Argument LineRefusal → Result (List Argument) LineRefusal → Result (List Argument) LineRefusal
joined (Ok value) (Ok values) = Ok (value ∷ values)
joined (Ok value) (Err refusal) = Err refusal
joined (Err refusals.Range) (Ok values) = Err refusals.Range
joined (Err refusals.Range) (Err refusal) = Err refusal
joined (Err refusal) others = Err refusal

-- what words say in so many fields
abbrev pub values_of : List Field → List (List ℕ) → Result (List Argument) LineRefusal
values_of [] words = Ok []
values_of (field ∷ fields) [] = Ok []
values_of (field ∷ fields) (word ∷ words) = joined (value_of field word) (values_of fields words)

-- a refusal is the one that is due, and want of memory says nothing of it
abbrev pub Fails : {A : Type 0} → LineRefusal → Result A LineRefusal → Type 0
Fails refusals.Word due = due ≡ Err refusals.Word
Fails refusals.Number due = due ≡ Err refusals.Number
Fails refusals.Range due = due ≡ Err refusals.Range
Fails refusals.NoMemory due = Unit {0}

-- an answer is the one that is due
abbrev pub Gives : {A : Type 0} → Result A LineRefusal → Result A LineRefusal → Type 0
Gives (Ok answer) due = due ≡ Ok answer
Gives (Err refusal) due = Fails refusal due
