-- Keywords that are found.
use Rattle.std.proofs.Common.{◌≡◌, ℕ, Bool, true, false, cond, List, [], ◌∷◌, length, refl, subst, IfSome, Option, Some, None}
use Rattle.std.proofs.lemmas.Bool.{and_parts, eqb-true}
use Rattle.std.specs.Str.{bytes_eq}
use Rattle.std.specs.Prelude.{◌==◌, find}
use Rattle.t3_asm_line.specs.declared.keyword.Keyword.{Keyword}
use Rattle.t3_asm_line.specs.declared.keyword.Keyword.TheVariants.{Instruction}
use Rattle.t3_asm_line.specs.Keywords.{keywords, fields_of, name_of, is_form, if_form}

first_or_later : {X : Type 0} (p : X → Bool) (x : X) (xs : List X) (b : Bool) → p x ≡ b → IfSome (find p xs) (λ y. p y ≡ true)
    → IfSome (cond b (Some x) (find p xs)) (λ y. p y ≡ true)
first_or_later p x xs true is later = is
first_or_later p x xs false is later = later

-- what is found passes the test
pub found : {X : Type 0} (p : X → Bool) (xs : List X) → IfSome (find p xs) (λ x. p x ≡ true)
found p [] = tt
found p (x ∷ xs) = first_or_later p x xs (p x) refl (found p xs)

form_count : (word : List ℕ) (count : ℕ) (keyword : Keyword) → is_form word count keyword ≡ true → length (fields_of keyword) ≡ count
form_count word count keyword is =
    eqb-true (length (fields_of keyword)) count (and_parts (bytes_eq (name_of keyword) word) (length (fields_of keyword) == count) is).1

if_some : (o : Option Keyword) (P : Keyword → Type 0) (keyword : Keyword) → Some keyword ≡ o → IfSome o P → P keyword
if_some None P keyword is h = absurd cc
if_some (Some other) P keyword is h = let same : other ≡ keyword = cc in subst P same h

-- a keyword of the table that is found has as many fields as there are other words
pub listed_form : (word : List ℕ) (count : ℕ) (keyword : Keyword) → Some keyword ≡ find (is_form word count) keywords
    → length (fields_of keyword) ≡ count
listed_form word count keyword is =
    form_count word count keyword (if_some (find (is_form word count) keywords) _ keyword is (found (is_form word count) keywords))

if_true : (P : Keyword → Type 0) (keyword : Keyword) (b : Bool) → (b ≡ true → P keyword) → IfSome (cond b (Some keyword) None) P
if_true P keyword true h = h refl
if_true P keyword false h = tt

-- an instruction too
pub instruction_form : (word : List ℕ) (count : ℕ) (opcode : Option ℕ)
    → IfSome (if_form word count opcode) (λ keyword. length (fields_of keyword) ≡ count)
instruction_form word count None = tt
instruction_form word count (Some opcode) =
    if_true (λ keyword. length (fields_of keyword) ≡ count) (Instruction opcode) (is_form word count (Instruction opcode))
    (form_count word count (Instruction opcode))
