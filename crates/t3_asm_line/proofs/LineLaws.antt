-- The lines of a listing read back.
use Rattle.std.proofs.Common.{◌≡◌, ℕ, suc, ◌^◌, ◌<◌, true, not, map, append_assoc, List, [], ◌∷◌, ◌++◌, length, refl, ap, ◌∙◌, Some, None, Ok, lit<, lit≤, arith}
use Rattle.std.specs.Prelude.{nat_le, ◌==◌}
use Rattle.std.specs.List.{AllByRecursion}
use Rattle.std.proofs.lemmas.Bool.{le-leb, and_from, and_parts, not-true}
use Rattle.std.proofs.lemmas.List.Folds.{list_all-append}
use Rattle.t3_asm_line.specs.declared.argument.Argument.{Argument}
use Rattle.t3_asm_line.specs.declared.argument.Argument.TheVariants as arguments
use Rattle.t3_asm_line.specs.declared.field.Field.{Field}
use Rattle.t3_asm_line.specs.declared.field.Field.TheVariants as fields
use Rattle.t3_asm_line.specs.declared.field.Layout.{Layout}
use Rattle.t3_asm_line.specs.declared.field.Layout.TheVariants.{Number, Quoted, Hex}
use Rattle.t3_asm_line.specs.declared.keyword.Keyword.{Keyword}
use Rattle.t3_asm_line.specs.declared.keyword.Keyword.TheVariants as of
use Rattle.t3_asm_line.specs.declared.words.Mode.TheVariants.{Plain}
use Rattle.t3_asm_line.specs.Fields.{layout_of, IsSound}
use Rattle.t3_asm_line.specs.Keywords.{name_of, fields_of, keyword_of}
use Rattle.t3_asm_line.specs.Labels.{label_put}
use Rattle.t3_asm_line.specs.Line.{line_of, spoken, spoken_by, mapped, parsed_line}
use Rattle.t3_asm_line.specs.Lines.{lines_of}
use Rattle.t3_asm_line.specs.declared.line.ParsedLine.{ParsedLine}
use Rattle.t3_asm_line.specs.Listing.{spelled, spelled_in, spelled_fields, listed_line, FitsIn, FitFields, IsNamed, IsListed, IsListedLine, listing_of}
use Rattle.t3_asm_line.specs.Values.{value_of, value_in, values_of}
use Rattle.t3_asm_line.specs.Words.{words_from, words_of}
use Rattle.t3_asm_line.proofs.Clipping.{width_limit}
use Rattle.t3_asm_line.proofs.QuotedLaws.{quoted_of-quoted_text, IsWord-quoted}
use Rattle.t3_asm_line.proofs.ValueLaws.{number_of-decimal, hex_of-hex_text, IsWord-decimal, IsWord-hex}
use Rattle.t3_asm_line.proofs.WordLaws.{is_one_line, IsWord, IsWord-bare, closed-some}

-- ---- fields

sound : (field : Field) → IsSound (layout_of field)
sound fields.BlockName = tt
sound fields.Name = tt
sound fields.Text = tt
sound fields.Reserved = tt
sound fields.Timestamp = tt
sound fields.Bytes = tt
sound field = record { few = lit≤ tt; low = lit≤ tt; high = lit< tt }

-- what a layout spells reads back as it, and is a word
record ReadsBack (layout : Layout) (argument : Argument) : Type 0 where
  value : value_in layout (spelled_in layout argument) ≡ Ok argument
  word : IsWord (spelled_in layout argument)

reads_back : (layout : Layout) (argument : Argument) → IsSound layout → FitsIn layout argument → ReadsBack layout argument
reads_back (Number width below most reference) (arguments.Number n) holds fits =
    let limit = width_limit width holds.few in
    let small : n < 2 ^ 64 = omega (arith, limit, holds.high) in
    let most_is : nat_le n most ≡ true = le-leb n most fits in
    record { value = rw (number_of-decimal n small, most_is) refl; word = IsWord-decimal n small }
reads_back (Quoted least most) (arguments.Text bytes) holds fits =
    record { value = rw (quoted_of-quoted_text bytes fits.0, fits.1) refl; word = IsWord-quoted bytes fits.0 }
reads_back (Hex least most) (arguments.Text bytes) holds fits =
    record { value = rw (hex_of-hex_text bytes fits.0, fits.1) refl; word = IsWord-hex bytes fits.0 }
reads_back layout argument holds fits = absurd fits

pub value_of-spelled : (field : Field) (argument : Argument) → FitsIn (layout_of field) argument
    → value_of field (spelled field argument) ≡ Ok argument
unfolding value_of spelled
value_of-spelled field argument fits = (reads_back (layout_of field) argument (sound field) fits).value

IsWord-spelled : (field : Field) (argument : Argument) → FitsIn (layout_of field) argument → IsWord (spelled field argument)
unfolding spelled
IsWord-spelled field argument fits = (reads_back (layout_of field) argument (sound field) fits).word

-- ---- words

spelled_words : List Field → List Argument → List (List ℕ)
spelled_words [] arguments = []
spelled_words (field ∷ fields) [] = []
spelled_words (field ∷ fields) (argument ∷ arguments) = spelled field argument ∷ spelled_words fields arguments

values_of-spelled : (fields : List Field) (arguments : List Argument) → FitFields fields arguments
    → values_of fields (spelled_words fields arguments) ≡ Ok arguments
unfolding spelled_words
values_of-spelled [] [] fit = refl
values_of-spelled [] (argument ∷ arguments) fit = absurd fit
values_of-spelled (field ∷ fields) [] fit = absurd fit
values_of-spelled (field ∷ fields) (argument ∷ arguments) fit =
    rw (value_of-spelled field argument fit.0, values_of-spelled fields arguments fit.1) refl

length-spelled_words : (fields : List Field) (arguments : List Argument) → FitFields fields arguments
    → length (spelled_words fields arguments) ≡ length fields
unfolding spelled_words
length-spelled_words [] arguments fit = refl
length-spelled_words (field ∷ fields) [] fit = absurd fit
length-spelled_words (field ∷ fields) (argument ∷ arguments) fit = ap suc (length-spelled_words fields arguments fit.1)

words_from-spelled : (front : List ℕ) (fields : List Field) (arguments : List Argument) → 0 < length front → FitFields fields arguments
    → words_from Plain front (spelled_fields fields arguments) ≡ front ∷ spelled_words fields arguments
unfolding spelled_words
words_from-spelled front [] [] some fit = closed-some front some
words_from-spelled front [] (argument ∷ arguments) some fit = absurd fit
words_from-spelled front (field ∷ fields) [] some fit = absurd fit
words_from-spelled front (field ∷ fields) (argument ∷ arguments) some fit =
    let word = IsWord-spelled field argument fit.0 in
    ap (λ w. w ++ words_from Plain [] (spelled field argument ++ spelled_fields fields arguments)) (closed-some front some)
    ∙ ap (λ w. front ∷ w) (word.whole [] (spelled_fields fields arguments)
    ∙ words_from-spelled (spelled field argument) fields arguments word.some fit.1)

-- ---- keywords

record IsFound (keyword : Keyword) : Type 0 where
  word : IsWord (name_of keyword)
  no_label : label_put (name_of keyword) ≡ None
  found : keyword_of (name_of keyword) (length (fields_of keyword)) ≡ Some keyword

found : (keyword : Keyword) → IsNamed keyword → IsFound keyword
unfolding label_put keyword_of
found of.Label named = absurd named
found (of.Instruction opcode) named = absurd named
found keyword named = record { word = IsWord-bare (name_of keyword) (lit< tt) refl; no_label = refl; found = refl }

-- ---- lines

spoken-spelled : (keyword : Keyword) (arguments : List Argument) → IsListed keyword arguments
    → spoken (name_of keyword) (spelled_words (fields_of keyword) arguments) ≡ Ok (parsed_line keyword arguments)
unfolding spoken
spoken-spelled keyword arguments listed =
    let is = found keyword listed.named in
    rw (
      is.no_label,
      length-spelled_words (fields_of keyword) arguments listed.fit,
      is.found,
      values_of-spelled (fields_of keyword) arguments listed.fit,
    ) refl

pub line_of-listed_line : (keyword : Keyword) (arguments : List Argument) → IsListed keyword arguments
    → line_of (listed_line keyword arguments) ≡ Ok (Some (parsed_line keyword arguments))
unfolding line_of listed_line
line_of-listed_line keyword arguments listed =
    let is = found keyword listed.named in
    let words : words_of (name_of keyword ++ spelled_fields (fields_of keyword) arguments) ≡ name_of keyword ∷ spelled_words
    (fields_of keyword) arguments =
    is.word.whole [] (spelled_fields (fields_of keyword) arguments)
    ∙ words_from-spelled (name_of keyword) (fields_of keyword) arguments is.word.some listed.fit in
    ap spoken_by words ∙ ap (mapped Some) (spoken-spelled keyword arguments listed)

-- ---- listings

one_line_fields : (fields : List Field) (arguments : List Argument) → FitFields fields arguments
    → is_one_line (spelled_fields fields arguments) ≡ true
one_line_fields [] [] fit = refl
one_line_fields [] (argument ∷ arguments) fit = absurd fit
one_line_fields (field ∷ fields) [] fit = absurd fit
one_line_fields (field ∷ fields) (argument ∷ arguments) fit =
    list_all-append (λ byte. not (byte == 10)) (spelled field argument) (spelled_fields fields arguments)
    ∙ and_from _ _ (IsWord-spelled field argument fit.0).one (one_line_fields fields arguments fit.1)

one_line_listed : (keyword : Keyword) (arguments : List Argument) → IsListed keyword arguments
    → is_one_line (listed_line keyword arguments) ≡ true
unfolding listed_line
one_line_listed keyword arguments listed =
    list_all-append (λ byte. not (byte == 10)) (name_of keyword) (spelled_fields (fields_of keyword) arguments)
    ∙ and_from _ _ (found keyword listed.named).word.one (one_line_fields (fields_of keyword) arguments listed.fit)

-- a line that has no newline ends at the one behind it
lines_of-line : (line rest : List ℕ) → is_one_line line ≡ true → lines_of (line ++ (10 ∷ rest)) ≡ line ∷ lines_of rest
lines_of-line [] rest h = refl
lines_of-line (byte ∷ line) rest h =
    let parts = and_parts (not (byte == 10)) (is_one_line line) h in
    let other = not-true (byte == 10) parts.0 in
    rw (other, lines_of-line line rest parts.1) refl

pub lines_of-listing_of : (lines : List ParsedLine) → AllByRecursion IsListedLine lines
    → map line_of (lines_of (listing_of lines)) ≡ map (λ line. Ok (Some line)) lines
lines_of-listing_of [] all = refl
lines_of-listing_of (line ∷ lines) all =
    let text = listed_line line.keyword line.arguments in
    ap (λ t. map line_of (lines_of t)) (append_assoc text (10 ∷ []) (listing_of lines))
    ∙ ap (map line_of) (lines_of-line text (listing_of lines) (one_line_listed line.keyword line.arguments all.0))
    ∙ ap (λ first. first ∷ map line_of (lines_of (listing_of lines))) (line_of-listed_line line.keyword line.arguments all.0)
    ∙ ap (λ rest. Ok (Some line) ∷ rest) (lines_of-listing_of lines all.1)
