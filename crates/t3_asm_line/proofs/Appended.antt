-- Texts that are appended one after the other.
use Rattle.std.proofs.Common.{◌≡◌, ℕ, zero, suc, ◌<◌, List, [], ◌∷◌, ◌++◌, length, get_or, take, map, Result, Ok, Err, sym, ap, ◌∙◌, append_assoc, arith}
use Rattle.std.specs.Prelude.{IsErr}
use Rattle.std.proofs.lemmas.List.{append-nil}
use Rattle.t3_asm_line.specs.declared.field.Field.{Field}
use Rattle.t3_asm_line.specs.declared.listing.Listed.{Listed}
use Rattle.t3_asm_line.specs.Appending.{Keeps, Appends, argument_of}
use Rattle.t3_asm_line.specs.Listing.{spelled, spelled_fields}

-- a refusal after a text that was appended
pub Appends-after : {T E : Type 0} (old mid new text whole : List ℕ) (answer : Result T E) → IsErr answer → mid ≡ old ++ text
    → Keeps mid new
    → Appends old new whole answer
Appends-after old mid new text whole (Ok done) refused is kept = absurd cc
Appends-after old mid new text whole (Err refusal) refused is kept =
    record { more = text ++ kept.more; is = kept.is ∙ ap (λ b. b ++ kept.more) is ∙ append_assoc old text kept.more }

-- one text behind those that were appended
pub appended_more : (old mid new front one whole : List ℕ) → new ≡ mid ++ one → mid ≡ old ++ front → whole ≡ front ++ one
    → new ≡ old ++ whole
appended_more old mid new front one whole last is all =
    last ∙ ap (λ b. b ++ one) is ∙ append_assoc old front one ∙ ap (λ b. old ++ b) (sym all)

-- one argument more
pub spelled_fields_more : (fields : List Field) (listed : List Listed) (i : ℕ) (d : Field) (e : Listed) → i < length fields
    → length listed ≡ length fields
    → spelled_fields (take (suc i) fields) (map argument_of (take (suc i) listed))
    ≡ spelled_fields (take i fields) (map argument_of (take i listed)) ++ 32 ∷ spelled (get_or fields i d) (argument_of (get_or listed i e))
spelled_fields_more [] listed i d e less same = absurd (omega arith)
spelled_fields_more (field ∷ fields) [] i d e less same = absurd (omega arith)
spelled_fields_more (field ∷ fields) (one ∷ listed) zero d e less same = ap (λ b. 32 ∷ b) (append-nil (spelled field (argument_of one)))
spelled_fields_more (field ∷ fields) (one ∷ listed) (suc i) d e less same =
    ap (λ b. 32 ∷ (spelled field (argument_of one) ++ b)) (spelled_fields_more fields listed i d e (omega arith) (omega arith))
    ∙ ap (λ b. 32 ∷ b) (sym (append_assoc (spelled field (argument_of one)) (spelled_fields (take i fields) (map argument_of
    (take i listed)))
    (32 ∷ spelled (get_or fields i d) (argument_of (get_or listed i e)))))
