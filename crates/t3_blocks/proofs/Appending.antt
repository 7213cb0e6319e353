-- Texts that are appended one after the other. Other crates may use what stands here.
use Rattle.std.proofs.Common.{◌≡◌, ℕ, zero, suc, ◌<◌, List, [], ◌∷◌, ◌++◌, length, get_or, Result, Ok, Err, sym, ap, subst, ◌∙◌, append_assoc, arith}
use Rattle.std.specs.Prelude.{IsErr}
use Rattle.std.specs.List.{AllByRecursion}
use Rattle.std.proofs.lemmas.List.{append-nil}
use Rattle.t3_blocks.specs.Inner.Appending.{Keeps, Appends}

pub keeps_all : (old : List ℕ) → Keeps old old
keeps_all old = record { more = []; is = sym (append-nil old) }

-- what is kept of more is kept
pub keeps : (old mid new text : List ℕ) → mid ≡ old ++ text → Keeps mid new → Keeps old new
keeps old mid new text is kept =
    record { more = text ++ kept.more; is = kept.is ∙ ap (λ b. b ++ kept.more) is ∙ append_assoc old text kept.more }

-- one text after another
pub appends : {T E : Type 0} (old mid new first text : List ℕ) (answer : Result T E) → mid ≡ old ++ first → Appends mid new text answer
    → Appends old new (first ++ text) answer
appends old mid new first text (Ok done) is appended = appended ∙ ap (λ b. b ++ text) is ∙ append_assoc old first text
appends old mid new first text (Err refusal) is kept = keeps old mid new first is kept

-- a refusal after a text that was appended
pub is_kept : {T E : Type 0} (old mid new text whole : List ℕ) (answer : Result T E) → IsErr answer → mid ≡ old ++ text → Keeps mid new
    → Appends old new whole answer
is_kept old mid new text whole (Ok done) refused is kept = absurd cc
is_kept old mid new text whole (Err refusal) refused is kept = keeps old mid new text is kept

-- ---- elements

pub at_index : {X : Type 0} (P : X → Type 0) (xs : List X) (i : ℕ) (x : X) → AllByRecursion P xs → i < length xs → x ≡ get_or xs i x → P x
at_index P [] i x all less is = absurd (omega arith)
at_index P (y ∷ xs) zero x all less is = subst P (sym is) all.0
at_index P (y ∷ xs) (suc i) x all less is = at_index P xs i x all.1 (omega arith) is
