-- The names in a line that is read have at most 255 bytes.
use Rattle.std.proofs.Common.{◌≡◌, ℕ, zero, suc, ◌<◌, Bool, true, false, ◌&&◌, cond, leb, List, [], ◌∷◌, length, slice_get, Option, Some, None, Result, Ok, Err, refl, sym, ap, subst, ◌∙◌, lit<, arith}
use Rattle.std.proofs.lemmas.Bool.{leb-true}
use Rattle.t3_asm_line.specs.declared.argument.Argument.{Argument}
use Rattle.t3_asm_line.specs.declared.argument.Argument.TheVariants as arguments
use Rattle.t3_asm_line.specs.declared.field.Field.{Field}
use Rattle.t3_asm_line.specs.declared.field.Field.TheVariants as fields
use Rattle.t3_asm_line.specs.declared.keyword.Keyword.{Keyword}
use Rattle.t3_asm_line.specs.declared.keyword.Keyword.TheVariants as of
use Rattle.t3_asm_line.specs.declared.line.ParsedLine.{ParsedLine}
use Rattle.t3_asm_line.specs.declared.refusal.LineRefusal.{LineRefusal}
use Rattle.t3_asm_line.specs.declared.refusal.LineRefusal.TheVariants as refusals
use Rattle.t3_asm_line.specs.Keywords.{fields_of, keyword_of}
use Rattle.t3_asm_line.specs.Labels.{label_put}
use Rattle.t3_asm_line.specs.Line.{mapped, parsed_line, keyword_line, label_line, labelled_line, spoken, spoken_by, line_of}
use Rattle.t3_asm_line.specs.Quoted.{quoted_of}
use Rattle.t3_asm_line.specs.Values.{is_size, text_value, value_of, values_of, joined}
use Rattle.t3_asm_line.specs.Words.{words_of}
use Rattle.t3_asm.specs.Arguments.{text_in, text_at}

-- what a line's names have
abbrev pub HasNames : Keyword → List Argument → Type 0
HasNames of.Metaclass arguments = length (text_at arguments 0) < 256
HasNames of.FunctionSet arguments = length (text_at arguments 0) < 256
HasNames of.Symbol arguments = length (text_at arguments 2) < 256
HasNames keyword arguments = Unit {0}

and_true : (a b : Bool) → (a && b) ≡ true → b ≡ true
and_true true b is = is
and_true false b is = absurd cc

short_text : (fits : Bool) (text : List ℕ) (argument : Argument) → is_size 0 (Some 255) (length text) ≡ fits
    → cond fits (Ok (arguments.Text text)) (Err refusals.Range) ≡ Ok argument → length (text_in (Some argument)) < 256
short_text true text argument small is =
    let same : argument ≡ arguments.Text text = cc in
    subst (λ a. length (text_in (Some a)) < 256) (sym same)
    (omega (arith, leb-true (length text) 255 (and_true (leb 0 (length text)) (leb (length text) 255) small)))
short_text false text argument small is = absurd cc

text_fits : (text : Option (List ℕ)) (argument : Argument) → text_value (is_size 0 (Some 255)) text ≡ Ok argument
    → length (text_in (Some argument)) < 256
text_fits None argument is = absurd cc
text_fits (Some text) argument is = short_text (is_size 0 (Some 255) (length text)) text argument refl is

name_fits : (word : List ℕ) (argument : Argument) → value_of fields.Name word ≡ Ok argument
    → length (text_in (Some argument)) < 256
unfolding value_of
name_fits word argument is = text_fits (quoted_of word) argument is

-- the parts of values that were read
record IsJoined (first : Result Argument LineRefusal) (others : Result (List Argument) LineRefusal) (values : List Argument) : Type 0 where
  value : Argument
  rest : List Argument
  first_is : first ≡ Ok value
  rest_is : others ≡ Ok rest
  values_are : values ≡ value ∷ rest

joined-Ok : (first : Result Argument LineRefusal) (others : Result (List Argument) LineRefusal) (values : List Argument)
    → joined first others ≡ Ok values → IsJoined first others values
joined-Ok (Ok value) (Ok rest) values is = record { value = value; rest = rest; first_is = refl; rest_is = refl; values_are = cc }
joined-Ok (Ok value) (Err refusal) values is = absurd cc
joined-Ok (Err refusals.Range) (Ok rest) values is = absurd cc
joined-Ok (Err refusals.Range) (Err refusal) values is = absurd cc
joined-Ok (Err refusal) others values is = absurd cc

-- a name among the values of fields
names_fit : (fs : List Field) (words : List (List ℕ)) (values : List Argument) (i : ℕ)
    → values_of fs words ≡ Ok values → slice_get fs i ≡ Some fields.Name → length (text_at values i) < 256
names_fit [] words values i is at = absurd cc
names_fit (field ∷ fs) [] values i is at =
    let none : values ≡ [] = cc in subst (λ v. length (text_at v i) < 256) (sym none) (lit< tt)
names_fit (field ∷ fs) (word ∷ words) values zero is at =
    let parts = joined-Ok (value_of field word) (values_of fs words) values is in
    let named : field ≡ fields.Name = cc in
    subst (λ v. length (text_at v 0) < 256) (sym parts.values_are)
    (name_fits word parts.value (ap (λ f. value_of f word) (sym named) ∙ parts.first_is))
names_fit (field ∷ fs) (word ∷ words) values (suc i) is at =
    let parts = joined-Ok (value_of field word) (values_of fs words) values is in
    subst (λ v. length (text_at v (suc i)) < 256) (sym parts.values_are) (names_fit fs words parts.rest i parts.rest_is at)

keyword_names : (keyword : Keyword) (words : List (List ℕ)) (values : List Argument) → values_of (fields_of keyword) words ≡ Ok values
    → HasNames keyword values
keyword_names of.Metaclass words values is = names_fit (fields_of of.Metaclass) words values 0 is refl
keyword_names of.FunctionSet words values is = names_fit (fields_of of.FunctionSet) words values 0 is refl
keyword_names of.Symbol words values is = names_fit (fields_of of.Symbol) words values 2 is refl
keyword_names keyword words values is = tt

mapped_names : (keyword : Keyword) (values : Result (List Argument) LineRefusal) (parsed : ParsedLine)
    → ((said : List Argument) → values ≡ Ok said → HasNames keyword said)
    → mapped (parsed_line keyword) values ≡ Ok parsed → HasNames parsed.keyword parsed.arguments
mapped_names keyword (Ok said) parsed names is =
    let same : parsed ≡ parsed_line keyword said = cc in
    subst (λ p. HasNames p.keyword p.arguments) (sym same) (names said refl)
mapped_names keyword (Err refusal) parsed names is = absurd cc

keyword_line_names : (words : List (List ℕ)) (keyword : Option Keyword) (parsed : ParsedLine)
    → keyword_line words keyword ≡ Ok parsed → HasNames parsed.keyword parsed.arguments
keyword_line_names words None parsed is = absurd cc
keyword_line_names words (Some keyword) parsed is =
    mapped_names keyword (values_of (fields_of keyword) words) parsed (keyword_names keyword words) is

label_names : (label : List ℕ) (words : List (List ℕ)) (parsed : ParsedLine) → label_line label words ≡ Ok parsed
    → HasNames parsed.keyword parsed.arguments
label_names label [] parsed is =
    let same : parsed ≡ parsed_line of.Label (arguments.Text label ∷ []) = cc in
    subst (λ p. HasNames p.keyword p.arguments) (sym same) tt
label_names label (word ∷ words) parsed is = absurd cc

labelled_names : (word : List ℕ) (words : List (List ℕ)) (label : Option (List ℕ)) (parsed : ParsedLine)
    → labelled_line word words label ≡ Ok parsed → HasNames parsed.keyword parsed.arguments
labelled_names word words None parsed is = keyword_line_names words (keyword_of word (length words)) parsed is
labelled_names word words (Some label) parsed is = label_names label words parsed is

spoken_names : (word : List ℕ) (words : List (List ℕ)) (parsed : ParsedLine)
    → spoken word words ≡ Ok parsed → HasNames parsed.keyword parsed.arguments
unfolding spoken
spoken_names word words parsed is = labelled_names word words (label_put word) parsed is

some_names : (said : Result ParsedLine LineRefusal) (parsed : ParsedLine)
    → ((line : ParsedLine) → said ≡ Ok line → HasNames line.keyword line.arguments)
    → mapped Some said ≡ Ok (Some parsed) → HasNames parsed.keyword parsed.arguments
some_names (Ok line) parsed names is =
    let same : line ≡ parsed = cc in subst (λ p. HasNames p.keyword p.arguments) same (names line refl)
some_names (Err refusal) parsed names is = absurd cc

words_names : (words : List (List ℕ)) (parsed : ParsedLine) → spoken_by words ≡ Ok (Some parsed)
    → HasNames parsed.keyword parsed.arguments
words_names [] parsed is = absurd cc
words_names (word ∷ words) parsed is = some_names (spoken word words) parsed (spoken_names word words) is

pub line_names : (text : List ℕ) (parsed : ParsedLine) → line_of text ≡ Ok (Some parsed)
    → HasNames parsed.keyword parsed.arguments
unfolding line_of
line_names text parsed is = words_names (words_of text) parsed is
