-- Texts that are appended one after the other.
use Rattle.std.proofs.Common.{◌≡◌, ℕ, List, [], ◌++◌, length, take, Result, Ok, Err, sym, ap, ◌∙◌, append_assoc}
use Rattle.std.specs.Prelude.{IsErr, IfOk}
use Rattle.std.proofs.lemmas.List.{append-nil}
use Rattle.std.proofs.Math.Seq.{take-append_seam}
use Rattle.t3_console.specs.Inner.Appending.{Keeps, Appends}

pub keeps_all : (old : List ℕ) → Keeps old old
keeps_all old = record { more = []; is = sym (append-nil old) }

-- what is kept of more is kept
pub keeps : (old mid new text : List ℕ) → mid ≡ old ++ text → Keeps mid new → Keeps old new
keeps old mid new text is kept = record {
  more = text ++ kept.more;
  is = kept.is ∙ ap (λ b. b ++ kept.more) is
      ∙ append_assoc old text kept.more;
}

-- a refusal after a text that was appended
pub is_kept : {T E : Type 0} (old mid new text whole : List ℕ) (answer : Result T E) → IsErr answer → mid ≡ old ++ text
    → Keeps mid new → Appends old new whole answer
is_kept old mid new text whole (Ok done) refused is kept = absurd cc
is_kept old mid new text whole (Err refusal) refused is kept = keeps old mid new text is kept

-- what is kept comes back when the rest is cut off
pub cut_back : (old mid new : List ℕ) → Keeps old mid → new ≡ take (length old) mid → new ≡ old
cut_back old mid new kept cut = cut ∙ ap (take (length old)) kept.is ∙ take-append_seam old kept.more

-- what follows from what an `Ok` gives
pub on_ok : {T E : Type 0} (answer : Result T E) (P Q : Type 0) → IfOk answer (λ _. P) → (P → Q) → IfOk answer (λ _. Q)
on_ok (Ok done) P Q given gives = gives given
on_ok (Err refusal) P Q given gives = tt
