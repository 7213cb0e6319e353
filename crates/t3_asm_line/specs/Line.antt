-- What a line of source says: nothing, a keyword with its arguments, or the first of the rules on words, values and ranges that it breaks.
use Rattle.std.specs.Prelude.{ℕ, List, [], ◌∷◌, length, Option, Some, None, Result, Ok, Err}
use Rattle.t3_asm_line.specs.declared.argument.Argument.{Argument}
use Rattle.t3_asm_line.specs.declared.argument.Argument.TheVariants as arguments
use Rattle.t3_asm_line.specs.declared.keyword.Keyword.{Keyword}
use Rattle.t3_asm_line.specs.declared.keyword.Keyword.TheVariants.{Label}
use Rattle.t3_asm_line.specs.declared.line.ParsedLine.{ParsedLine}
use Rattle.t3_asm_line.specs.declared.refusal.LineRefusal.{LineRefusal}
use Rattle.t3_asm_line.specs.declared.refusal.LineRefusal.TheVariants as refusals
use Rattle.t3_asm_line.specs.Keywords.{keyword_of, fields_of}
use Rattle.t3_asm_line.specs.Labels.{label_put}
use Rattle.t3_asm_line.specs.Values.{values_of}
use Rattle.t3_asm_line.specs.Words.{words_of}

-- a refusal stays as it is
abbrev pub mapped : {A B : Type 0} → (A → B) → Result A LineRefusal → Result B LineRefusal
mapped f (Ok value) = Ok (f value)
mapped f (Err refusal) = Err refusal

abbrev pub parsed_line : Keyword → List Argument → ParsedLine
parsed_line keyword arguments = record { keyword = keyword; arguments = arguments }

-- a keyword's words are as many as its fields; a first word that begins no such line is unknown, or words are missing or surplus
abbrev pub keyword_line : List (List ℕ) → Option Keyword → Result ParsedLine LineRefusal
keyword_line words None = Err refusals.Word
keyword_line words (Some keyword) = mapped (parsed_line keyword) (values_of (fields_of keyword) words)

-- a label stands alone
abbrev pub label_line : List ℕ → List (List ℕ) → Result ParsedLine LineRefusal
label_line label [] = Ok (parsed_line Label (arguments.Text label ∷ []))
label_line label (word ∷ words) = Err refusals.Word

abbrev pub labelled_line : List ℕ → List (List ℕ) → Option (List ℕ) → Result ParsedLine LineRefusal
labelled_line word words None = keyword_line words (keyword_of word (length words))
labelled_line word words (Some label) = label_line label words

-- what a first word and those behind it say
unfoldable pub spoken : List ℕ → List (List ℕ) → Result ParsedLine LineRefusal
spoken word words = labelled_line word words (label_put word)

abbrev pub spoken_by : List (List ℕ) → Result (Option ParsedLine) LineRefusal
spoken_by [] = Ok None
spoken_by (word ∷ words) = mapped Some (spoken word words)

unfoldable pub line_of : List ℕ → Result (Option ParsedLine) LineRefusal
line_of line = spoken_by (words_of line)
