-- Words of a listing stay whole.
use Rattle.std.proofs.Common.{◌≡◌, ℕ, ◌<◌, Bool, true, false, ◌||◌, not, List, [], ◌∷◌, ◌++◌, length, refl, ap, sym, ◌∙◌, append_assoc, arith}
use Rattle.std.specs.Prelude.{◌==◌}
use Rattle.std.specs.List.{list_all}
use Rattle.std.proofs.lemmas.Bool.{and_parts}
use Rattle.std.proofs.lemmas.List.{append-nil}
use Rattle.t3_asm_line.specs.declared.words.Mode.TheVariants.{Plain}
use Rattle.t3_asm_line.specs.Words.{closed, words_from}

-- outside quotes such a byte is one of a word, and it ends no line
abbrev pub is_bare : ℕ → Bool
is_bare byte = not (((byte == 32 || byte == 34) || byte == 59) || byte == 10)

pub record IsBare (byte : ℕ) : Type 0 where
  pub space : byte == 32 ≡ false
  pub quote : byte == 34 ≡ false
  pub comment : byte == 59 ≡ false
  pub newline : byte == 10 ≡ false

none_of : (a b c d : Bool) → not (((a || b) || c) || d) ≡ true → (a ≡ false) × (b ≡ false) × (c ≡ false) × (d ≡ false)
none_of false false false false h = (refl, refl, refl, refl)
none_of false false false true h = absurd cc
none_of false false true d h = absurd cc
none_of false true c d h = absurd cc
none_of true b c d h = absurd cc

pub IsBare-from_test : (byte : ℕ) → is_bare byte ≡ true → IsBare byte
IsBare-from_test byte h =
    let parts = none_of (byte == 32) (byte == 34) (byte == 59) (byte == 10) h in
    record { space = parts.0; quote = parts.1; comment = parts.2; newline = parts.3 }

-- no byte of these ends a line
abbrev pub is_one_line : List ℕ → Bool
is_one_line bytes = list_all (λ byte. not (byte == 10)) bytes

-- a word that stays whole behind any other bytes, and before any
pub record IsWord (word : List ℕ) : Type 0 where
  pub whole : (front rest : List ℕ) → words_from Plain front (word ++ rest) ≡ words_from Plain (front ++ word) rest
  pub some : 0 < length word
  pub one : is_one_line word ≡ true

bare_step : (byte : ℕ) (front rest : List ℕ) → IsBare byte
    → words_from Plain front (byte ∷ rest) ≡ words_from Plain (front ++ byte ∷ []) rest
bare_step byte front rest bare = rw (bare.comment, bare.space, bare.quote) refl

bare_whole : (word : List ℕ) → list_all is_bare word ≡ true → (front rest : List ℕ)
    → words_from Plain front (word ++ rest) ≡ words_from Plain (front ++ word) rest
bare_whole [] h front rest = ap (λ w. words_from Plain w rest) (sym (append-nil front))
bare_whole (byte ∷ word) h front rest =
    let parts = and_parts (is_bare byte) (list_all is_bare word) h in
    bare_step byte front (word ++ rest) (IsBare-from_test byte parts.0) ∙ bare_whole word parts.1 (front ++ byte ∷ []) rest
    ∙ ap (λ w. words_from Plain w rest) (append_assoc front (byte ∷ []) word)

bare_line : (word : List ℕ) → list_all is_bare word ≡ true → is_one_line word ≡ true
bare_line [] h = refl
bare_line (byte ∷ word) h =
    let parts = and_parts (is_bare byte) (list_all is_bare word) h in
    let newline = (IsBare-from_test byte parts.0).newline in
    rw (newline, bare_line word parts.1) refl

pub IsWord-bare : (word : List ℕ) → 0 < length word → list_all is_bare word ≡ true → IsWord word
IsWord-bare word some h = record { whole = bare_whole word h; some = some; one = bare_line word h }

pub closed-some : (word : List ℕ) → 0 < length word → closed word ≡ word ∷ []
closed-some [] h = absurd (omega arith)
closed-some (byte ∷ word) h = refl
