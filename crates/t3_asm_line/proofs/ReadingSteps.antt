-- One word more of those that stand in fields.
use Rattle.std.proofs.Common.{◌≡◌, ℕ, ◌+◌, ◌<◌, Bool, true, false, List, [], ◌∷◌, ◌++◌, length, get_or, drop, map, Result, Ok, Err, refl, ap, sym, ◌∙◌, append_assoc, Bor}
use Rattle.std.proofs.lemmas.List.{drop_more}
use Rattle.t3_asm_line.specs.declared.argument.Argument.{Argument}
use Rattle.t3_asm_line.specs.declared.field.Field.{Field}
use Rattle.t3_asm_line.specs.declared.refusal.LineRefusal.{LineRefusal}
use Rattle.t3_asm_line.specs.declared.refusal.LineRefusal.TheVariants.{Range}
use Rattle.t3_asm_line.specs.Values.{value_of, values_of, joined}
use Rattle.t3_asm_line.specs.Inner.Reading.{behind_values}

pub values_of-more : (fields : List Field) (words : List (Bor (List ℕ))) (i : ℕ) (field : Field) (e : Bor (List ℕ))
    → field ≡ get_or fields i field
    → i < length fields → i < length words
    → values_of (drop i fields) (map (λ w. w.now) (drop i words))
    ≡ joined (value_of field (get_or words i e).now) (values_of (drop (i + 1) fields) (map (λ w. w.now) (drop (i + 1) words)))
values_of-more fields words i field e is less within =
    let one : drop i fields ≡ field ∷ drop (i + 1) fields = drop_more fields i field less ∙ ap (λ f. f ∷ drop (i + 1) fields) (sym is) in
    rw (one, drop_more words i e within) refl

-- a word that says a value
pub behind-Ok : (has_far : Bool) (front : List Argument) (value : Argument) (rest : Result (List Argument) LineRefusal)
    → behind_values has_far (front ++ value ∷ []) rest ≡ behind_values has_far front (joined (Ok value) rest)
behind-Ok true front value (Ok values) = refl
behind-Ok false front value (Ok values) = ap Ok (append_assoc front (value ∷ []) values)
behind-Ok has_far front value (Err refusal) = refl

-- and one that is out of range
pub behind-Range : (has_far : Bool) (front : List Argument) (rest : Result (List Argument) LineRefusal)
    → behind_values true front rest ≡ behind_values has_far front (joined (Err Range) rest)
behind-Range true front (Ok values) = refl
behind-Range false front (Ok values) = refl
behind-Range has_far front (Err refusal) = refl
