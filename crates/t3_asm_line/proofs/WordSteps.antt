-- One byte more of a line.
use Rattle.std.proofs.Common.{◌≡◌, ℕ, ◌+◌, ◌-◌, ◌<◌, ◌≤◌, true, false, ◌&&◌, List, [], ◌∷◌, ◌++◌, length, get_or, take, drop, refl, ap, sym, ◌∙◌, append_assoc, arith}
use Rattle.std.specs.Prelude.{◌==◌}
use Rattle.std.proofs.lemmas.List.{at_drop_more}
use Rattle.std.proofs.lemmas.List.Edits.{between_more}
use Rattle.t3_asm_line.specs.declared.words.Mode.{Mode}
use Rattle.t3_asm_line.specs.declared.words.Mode.TheVariants.{Plain, Quoted, Escaped}
use Rattle.t3_asm_line.specs.Words.{mode_behind, is_plain, closed, words_from}

by_space : (mode : Mode) (word : List ℕ) (byte : ℕ) (bytes : List ℕ) → (is_plain mode && byte == 59) ≡ false
    → (is_plain mode && byte == 32) ≡ true
    → words_from mode word (byte ∷ bytes) ≡ closed word ++ words_from mode [] bytes
by_space Plain word byte bytes keeps ends = rw (keeps, ends) refl
by_space Quoted word byte bytes keeps ends = absurd cc
by_space Escaped word byte bytes keeps ends = absurd cc

by_other : (mode : Mode) (word : List ℕ) (byte : ℕ) (bytes : List ℕ) → (is_plain mode && byte == 59) ≡ false
    → (is_plain mode && byte == 32) ≡ false
    → words_from mode word (byte ∷ bytes) ≡ words_from (mode_behind mode byte) (word ++ byte ∷ []) bytes
by_other mode word byte bytes keeps never = rw (keeps, never) refl

-- a space ends the word that has begun
pub words_from-space : (mode : Mode) (line : List ℕ) (start at : ℕ) (front words : List (List ℕ)) → at < length line
    → (is_plain mode && get_or line at 0 == 59) ≡ false → (is_plain mode && get_or line at 0 == 32) ≡ true
    → front ++ words_from mode (take (at - start) (drop start line)) (drop at line) ≡ words
    → (front ++ closed (take (at - start) (drop start line))) ++ words_from mode (take (at + 1 - (at + 1)) (drop (at + 1) line))
    (drop (at + 1) line) ≡ words
words_from-space mode line start at front words inside keeps ends is =
    let word = take (at - start) (drop start line) in
    let none : at + 1 - (at + 1) ≡ 0 = omega arith in
    rw (none, append_assoc) (ap (λ rest. front ++ rest) (sym (by_space mode word (get_or line at 0) (drop (at + 1) line) keeps ends))
    ∙ ap (λ rest. front ++ rest) (sym (at_drop_more (words_from mode word) line at 0 inside)) ∙ is)

-- any other byte belongs to it
pub words_from-other : (mode : Mode) (line : List ℕ) (start at : ℕ) (front words : List (List ℕ)) → start ≤ at → at < length line
    → (is_plain mode && get_or line at 0 == 59) ≡ false → (is_plain mode && get_or line at 0 == 32) ≡ false
    → front ++ words_from mode (take (at - start) (drop start line)) (drop at line) ≡ words
    → front ++ words_from (mode_behind mode (get_or line at 0)) (take (at + 1 - start) (drop start line)) (drop (at + 1) line) ≡ words
words_from-other mode line start at front words begun inside keeps never is =
    let word = take (at - start) (drop start line) in
    let more : take (at + 1 - start) (drop start line) ≡ word ++ get_or line at 0 ∷ [] = between_more line start at 0 begun inside in
    rw more (ap (λ rest. front ++ rest) (sym (by_other mode word (get_or line at 0) (drop (at + 1) line) keeps never))
    ∙ ap (λ rest. front ++ rest) (sym (at_drop_more (words_from mode word) line at 0 inside)) ∙ is)
