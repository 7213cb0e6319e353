-- One field more of those in which a line breaks a rule.
use Rattle.std.proofs.Common.{◌≡◌, ℕ, ◌+◌, ◌<◌, ◌≤◌, min, false, ◌||◌, List, [], ◌∷◌, length, get_or, drop, Option, refl, ap, sym, ◌∙◌, inl, inr, arith}
use Rattle.std.proofs.lemmas.Bool.{cases_lt}
use Rattle.std.proofs.lemmas.List.{drop_more, drop_all}
use Rattle.t3_asm_line.specs.declared.argument.Argument.{Argument}
use Rattle.t3_asm_line.specs.declared.field.Field.{Field}
use Rattle.t3_asm.specs.declared.values.Rule.{Rule}
use Rattle.t3_asm.specs.Places.{Labels}
use Rattle.t3_asm.specs.Sizes.{width_of}
use Rattle.t3_asm.specs.Values.{breaks, some_breaks}

pub some_breaks-more : (rule : Rule) (labels : Labels) (method : Option ℕ) (own : ℕ) (fields : List Field) (arguments : List Argument)
    (i : ℕ) (field : Field) (argument : Argument)
    → field ≡ get_or fields i field → argument ≡ get_or arguments i argument
    → i < length fields → i < length arguments
    → some_breaks rule labels method own (drop i fields) (drop i arguments)
    ≡ (breaks rule labels method own field argument
    || some_breaks rule labels method (own + width_of field) (drop (i + 1) fields) (drop (i + 1) arguments))
some_breaks-more rule labels method own fields arguments i field argument field_is argument_is less within =
    let first : drop i fields ≡ field ∷ drop (i + 1) fields = drop_more fields i field less
    ∙ ap (λ f. f ∷ drop (i + 1) fields) (sym field_is) in
    let one : drop i arguments ≡ argument ∷ drop (i + 1) arguments =
    drop_more arguments i argument within ∙ ap (λ a. a ∷ drop (i + 1) arguments) (sym argument_is) in
    rw (first, one) refl

no_argument : (rule : Rule) (labels : Labels) (method : Option ℕ) (own : ℕ) (fields : List Field)
    → some_breaks rule labels method own fields [] ≡ false
no_argument rule labels method own [] = refl
no_argument rule labels method own (field ∷ fields) = refl

-- nothing breaks a rule behind the last field, or the last argument
pub some_breaks-end : (rule : Rule) (labels : Labels) (method : Option ℕ) (own : ℕ) (fields : List Field) (arguments : List Argument)
    (i : ℕ) → min (length fields) (length arguments) ≤ i
    → some_breaks rule labels method own (drop i fields) (drop i arguments) ≡ false
some_breaks-end rule labels method own fields arguments i ended =
    elim (cases_lt i (length fields)) [
      | inl less ↦
          let none : drop i arguments ≡ [] = drop_all i arguments (omega arith) in
          rw none (no_argument rule labels method own (drop i fields))
      | inr more ↦ let none : drop i fields ≡ [] = drop_all i fields more in rw none refl
    ]
