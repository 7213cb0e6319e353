-- The last line of what was put out.
use Rattle.std.proofs.Common.{◌≡◌, ℕ, ◌+◌, Bool, true, false, cond, leb, ◌||◌, Option, Some, None, List, [], ◌∷◌, ◌++◌, sym, refl, ap, ◌∙◌, append_assoc, arith}
use Rattle.std.specs.List.{list_any}
use Rattle.std.proofs.lemmas.List.{append-nil}
use Rattle.std.proofs.lemmas.List.Folds.{list_any-append}
use Rattle.t3_console.specs.Rendering.{is_newline, size_of, part_after, last_line, newline_due}
use Rattle.t3_console.specs.Page.{column_of}
use Rattle.t3_console.specs.Inner.Stepping.{State, lead, column_past, put, column_after, line_ending, put_byte, after_byte, put_text, after_text}
use Rattle.t3_console.proofs.Stepping.{IsWhole, whole_parts, size-append, put_byte-word, after_byte-word, put_byte-separator, after_byte-separator}
use Rattle.t3_console.proofs.Rendering.{newline, gap, part, parts_as, separator-newline, separator-gap, not_newline, whole_longer}

-- ---- what stands after the last

either_true : (a b : Bool) → b ≡ true → (a || b) ≡ true
either_true true b is = refl
either_true false b is = is

nor : (a b : Bool) → b ≡ false → (a || b) ≡ a
nor true b is = refl
nor false b is = is

pub part_after-none : (p : ℕ → Bool) (xs : List ℕ) → list_any p xs ≡ false → part_after p xs ≡ xs
unfolding part_after
part_after-none p [] none = refl
part_after-none p (x ∷ xs) none = rw none refl

tail_cases : (b : Bool) (long short : List ℕ) (x : ℕ) (xs ys : List ℕ) → long ≡ short ++ ys
    → cond b long (x ∷ (xs ++ ys)) ≡ cond b short (x ∷ xs) ++ ys
tail_cases true long short x xs ys is = is
tail_cases false long short x xs ys is = refl

-- a tail that has none is added to it
pub part_after-tail : (p : ℕ → Bool) (xs ys : List ℕ) → list_any p ys ≡ false → part_after p (xs ++ ys) ≡ part_after p xs ++ ys
unfolding part_after
part_after-tail p [] ys none = part_after-none p ys none
part_after-tail p (x ∷ xs) ys none =
    let same : list_any p (x ∷ (xs ++ ys)) ≡ list_any p (x ∷ xs) = ap (λ b. p x || b) (list_any-append p xs ys
    ∙ nor (list_any p xs) (list_any p ys) none) in
    ap (λ b. cond b (part_after p (xs ++ ys)) (x ∷ (xs ++ ys))) same
    ∙ tail_cases (list_any p (x ∷ xs)) (part_after p (xs ++ ys)) (part_after p xs) x xs ys (part_after-tail p xs ys none)

-- after one that passes there is only the tail
pub part_after-last : (p : ℕ → Bool) (xs : List ℕ) (y : ℕ) (ys : List ℕ) → p y ≡ true → list_any p ys ≡ false
    → part_after p (xs ++ y ∷ ys) ≡ ys
unfolding part_after
part_after-last p [] y ys is none = rw is (part_after-none p ys none)
part_after-last p (x ∷ xs) y ys is none =
    let some : list_any p (x ∷ (xs ++ y ∷ ys)) ≡ true = either_true (p x) (list_any p (xs ++ y ∷ ys)) (list_any-append p xs (y ∷ ys)
    ∙ either_true (list_any p xs) (list_any p (y ∷ ys)) (rw is refl)) in
    ap (λ b. cond b (part_after p (xs ++ y ∷ ys)) (x ∷ (xs ++ y ∷ ys))) some ∙ part_after-last p xs y ys is none

-- ---- columns

no_newlines : (word : List ℕ) → IsWhole word → list_any is_newline word ≡ false
no_newlines [] whole = refl
no_newlines (byte ∷ word) whole =
    let parts = whole_parts byte word whole in
    rw (not_newline byte parts.0, no_newlines word parts.1) refl

empty_line : (line : List ℕ) → column_of line ≡ None → line ≡ []
empty_line [] is = refl
empty_line (byte ∷ line) is = absurd cc

size_at : (line : List ℕ) (column : ℕ) → column_of line ≡ Some column → size_of line ≡ column
size_at [] column is = absurd cc
size_at (byte ∷ line) column is = cc

column_some : (line more : List ℕ) (byte size : ℕ) → size_of (line ++ byte ∷ more) ≡ size → column_of (line ++ byte ∷ more) ≡ Some size
column_some [] more byte size is = ap Some is
column_some (first ∷ line) more byte size is = ap Some is

column_after_some : (width column : ℕ) (out : List ℕ) (byte : ℕ) (word : List ℕ) → column_of (last_line out) ≡ Some column
    → IsWhole (byte ∷ word) → (fits : Bool)
    → column_of (last_line (out ++ (cond fits (32 ∷ []) (10 ∷ []) ++ byte ∷ word))) ≡ Some
    (cond fits (column + 1 + size_of (byte ∷ word)) (size_of (byte ∷ word)))
column_after_some width column out byte word at whole true =
    ap column_of (part_after-tail is_newline out (32 ∷ byte ∷ word) (no_newlines (byte ∷ word) whole))
    ∙ column_some (last_line out) (byte ∷ word) 32 (column + 1 + size_of (byte ∷ word))
    (size-append (last_line out) (32 ∷ byte ∷ word) ∙ (let here = size_at (last_line out) column at in let more = size-append
    (32 ∷ []) (byte ∷ word) in omega arith))
column_after_some width column out byte word at whole false =
    ap column_of (part_after-last is_newline out 10 (byte ∷ word) refl (no_newlines (byte ∷ word) whole))

-- a word on an empty line, or after a space, or on a new line
column_led : (width : ℕ) (column : Option ℕ) (out : List ℕ) (byte : ℕ) (word : List ℕ) → column_of (last_line out) ≡ column
    → IsWhole (byte ∷ word)
    → column_of (last_line (out ++ (lead width column (size_of (byte ∷ word)) ++ byte ∷ word))) ≡ Some
    (column_past width column (size_of (byte ∷ word)))
column_led width None out byte word at whole =
    ap column_of (part_after-tail is_newline out (byte ∷ word) (no_newlines (byte ∷ word) whole)
    ∙ ap (λ line. line ++ byte ∷ word) (empty_line (last_line out) at))
column_led width (Some column) out byte word at whole = column_after_some width column out byte word at whole
    (leb (column + 1 + size_of (byte ∷ word)) width)

-- the column after a word
pub column_put : (width : ℕ) (column : Option ℕ) (out word : List ℕ) → column_of (last_line out) ≡ column → IsWhole word
    → column_of (last_line (out ++ put width column word)) ≡ column_after width column word
column_put width column out [] at whole = ap (λ o. column_of (last_line o)) (append-nil out) ∙ at
column_put width column out (byte ∷ word) at whole = column_led width column out byte word at whole

pub newline_is : (line : List ℕ) → newline_due line ≡ line_ending (column_of line)
newline_is [] = refl
newline_is (byte ∷ line) = refl

-- ---- bytes

column_byte : (width : ℕ) (s : State) (byte : ℕ) (out : List ℕ) → column_of (last_line out) ≡ s.column → IsWhole s.word
    → column_of (last_line (out ++ put_byte width s byte)) ≡ (after_byte width s byte).column
column_byte width s byte out at whole =
    elim (parts_as byte) [
      | newline is ↦
          let ends = separator-newline byte is in
          let text : put_byte width s byte ≡ put width s.column s.word ++ 10 ∷ [] = put_byte-separator width s byte ends ∙ (rw is refl) in
          let state : after_byte width s byte ≡ record { column = None; word = [] } = after_byte-separator width s byte ends
          ∙ (rw is refl) in
          ap (λ t. column_of (last_line (out ++ t))) text
          ∙ ap (λ o. column_of (last_line o)) (sym (append_assoc out (put width s.column s.word) (10 ∷ [])))
          ∙ ap column_of (part_after-last is_newline (out ++ put width s.column s.word) 10 [] refl refl)
          ∙ ap (λ t. t.column) (sym state)
      | gap is is_g ↦
          let ends = separator-gap byte is is_g in
          let text : put_byte width s byte ≡ put width s.column s.word = put_byte-separator width s byte ends
          ∙ (rw is (append-nil (put width s.column s.word))) in
          let state : after_byte width s byte ≡ record { column = column_after width s.column s.word; word = [] } =
          after_byte-separator width s byte ends ∙ (rw is refl) in
          ap (λ t. column_of (last_line (out ++ t))) text ∙ column_put width s.column out s.word at whole ∙ ap (λ t. t.column) (sym state)
      | part is ↦
          ap (λ t. column_of (last_line (out ++ t))) (put_byte-word width s byte is)
          ∙ ap (λ o. column_of (last_line o)) (append-nil out) ∙ at
          ∙ ap (λ t. t.column) (sym (after_byte-word width s byte is))
    ]

pub whole_byte : (width : ℕ) (s : State) (byte : ℕ) → IsWhole s.word → IsWhole (after_byte width s byte).word
whole_byte width s byte whole =
    elim (parts_as byte) [
      | newline is ↦ rw (after_byte-separator width s byte (separator-newline byte is)) refl
      | gap is is_g ↦ rw (after_byte-separator width s byte (separator-gap byte is is_g)) refl
      | part is ↦ rw (after_byte-word width s byte is) (whole_longer s.word byte whole is)
    ]

-- the column is that of the last line of what was put out
pub column_text : (width : ℕ) (s : State) (text out : List ℕ) → column_of (last_line out) ≡ s.column → IsWhole s.word
    → column_of (last_line (out ++ put_text width s text)) ≡ (after_text width s text).column
column_text width s [] out at whole = ap (λ o. column_of (last_line o)) (append-nil out) ∙ at
column_text width s (byte ∷ text) out at whole =
    let next = after_byte width s byte in
    ap (λ o. column_of (last_line o)) (sym (append_assoc out (put_byte width s byte) (put_text width next text)))
    ∙ column_text width next text (out ++ put_byte width s byte) (column_byte width s byte out at whole) (whole_byte width s byte whole)

pub whole_text_word : (width : ℕ) (s : State) (text : List ℕ) → IsWhole s.word → IsWhole (after_text width s text).word
whole_text_word width s [] whole = whole
whole_text_word width s (byte ∷ text) whole = whole_text_word width (after_byte width s byte) text (whole_byte width s byte whole)
