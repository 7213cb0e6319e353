-- The first line of a text, and how many there are.
use Rattle.std.proofs.Common.{◌≡◌, ℕ, zero, suc, ◌<◌, ◌≤◌, false, List, [], ◌∷◌, ◌++◌, length, get_or, take, drop, inl, inr, refl, ap, arith}
use Rattle.std.specs.Prelude.{◌≢◌, ◌==◌}
use Rattle.std.specs.List.{onto_first, AllByRecursion}
use Rattle.std.proofs.lemmas.Bool.{ne_eqb, cond_both}
use Rattle.t3_asm_line.specs.Lines.{lines_of, HasFirstLine}

-- the first newline ends the first line
pub lines_of-first : (text : List ℕ) (at : ℕ) → at < length text → get_or text at 0 ≡ 10 → ((k : ℕ) → k < at → get_or text k 0 ≡ 10 → ⊥)
    → lines_of text ≡ take at text ∷ lines_of (drop (suc at) text)
lines_of-first [] at less is before = absurd (omega arith)
lines_of-first (byte ∷ text) zero less is before = rw is refl
lines_of-first (byte ∷ text) (suc at) less is before =
    let other : byte == 10 ≡ false = ne_eqb byte 10 (λ e. before 0 (omega arith) e) in
    let later = lines_of-first text at (omega arith) is (λ k h e. before (suc k) (omega arith) e) in
    rw (other, later) refl

-- without a newline a text is one line
pub lines_of-one : (byte : ℕ) (text : List ℕ) → ((k : ℕ) → k < length (byte ∷ text) → get_or (byte ∷ text) k 0 ≡ 10 → ⊥)
    → lines_of (byte ∷ text) ≡ (byte ∷ text) ∷ []
lines_of-one byte [] before =
    let other : byte == 10 ≡ false = ne_eqb byte 10 (λ e. before 0 (omega arith) e) in
    rw other refl
lines_of-one byte (next ∷ text) before =
    let other : byte == 10 ≡ false = ne_eqb byte 10 (λ e. before 0 (omega arith) e) in
    let later = lines_of-one next text (λ k h e. before (suc k) (omega arith) e) in
    rw (other, later) refl

length-onto_first : (byte : ℕ) (lines : List (List ℕ)) → length (onto_first byte lines) ≤ suc (length lines)
length-onto_first byte [] = omega arith
length-onto_first byte (line ∷ lines) = omega arith

pub length-lines_of : (text : List ℕ) → length (lines_of text) ≤ length text
length-lines_of [] = omega arith
length-lines_of (byte ∷ text) =
    let later = length-lines_of text in
    cond_both (byte == 10) _ _ (λ lines. length lines ≤ suc (length text))
    (λ e. omega (arith, later)) (λ e. omega (arith, later, length-onto_first byte (lines_of text)))

-- the same of any text that has a byte
pub whole_line : (text : List ℕ) → 0 < length text → ((k : ℕ) → k < length text → get_or text k 0 ≡ 10 → ⊥) → lines_of text ≡ text ∷ []
whole_line [] some before = absurd (omega arith)
whole_line (byte ∷ text) some before = lines_of-one byte text before

-- ---- the first line and what stands behind it

no_newline : (text : List ℕ) (at : ℕ) → ((k : ℕ) → k < at → get_or text k 0 ≡ 10 → ⊥) → AllByRecursion (λ byte. byte ≢ 10) (take at text)
no_newline [] zero before = tt
no_newline [] (suc at) before = tt
no_newline (byte ∷ text) zero before = tt
no_newline (byte ∷ text) (suc at) before =
    (λ e. before 0 (omega arith) e, no_newline text at (λ k h e. before (suc k) (omega arith) e))

all_newline_free : (text : List ℕ) → ((k : ℕ) → k < length text → get_or text k 0 ≡ 10 → ⊥) → AllByRecursion (λ byte. byte ≢ 10) text
all_newline_free [] before = tt
all_newline_free (byte ∷ text) before =
    (λ e. before 0 (omega arith) e, all_newline_free text (λ k h e. before (suc k) (omega arith) e))

parted : (text : List ℕ) (at : ℕ) → at < length text → get_or text at 0 ≡ 10 → text ≡ take at text ++ 10 ∷ drop (suc at) text
parted [] at less is = absurd (omega arith)
parted (byte ∷ text) zero less is = ap (λ b. b ∷ text) is
parted (byte ∷ text) (suc at) less is = ap (λ bytes. byte ∷ bytes) (parted text at (omega arith) is)

-- the first newline parts a text
pub parted_first : (text : List ℕ) (at : ℕ) → at < length text → get_or text at 0 ≡ 10 → ((k : ℕ) → k < at → get_or text k 0 ≡ 10 → ⊥)
    → HasFirstLine text (take at text) (drop (suc at) text)
parted_first text at less is before = record { whole = no_newline text at before; parts = inl (parted text at less is) }

-- without a newline a text is its first line
pub whole_first : (text : List ℕ) → ((k : ℕ) → k < length text → get_or text k 0 ≡ 10 → ⊥) → HasFirstLine text text []
whole_first text before = record { whole = all_newline_free text before; parts = inr (refl, refl) }
