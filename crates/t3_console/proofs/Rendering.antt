-- The rendering of a text is what its bytes put out, and the word that is left.
use Rattle.std.proofs.Common.{◌≡◌, ℕ, ◌+◌, ◌<◌, Bool, true, false, leb, ◌||◌, Option, Some, None, List, [], ◌∷◌, ◌++◌, length, map, filter, sym, refl, ap, ◌∙◌, append_assoc, arith}
use Rattle.std.specs.List.{All, slice_split, onto_first, join_with_byte, flat_map}
use Rattle.std.proofs.lemmas.List.{append-nil}
use Rattle.std.proofs.lemmas.List.Splits.{slice_split_at, slice_split_none, slice_split-cons_yes, slice_split-cons_no, length-slice_split}
use Rattle.std.proofs.lemmas.List.Folds.{list_any-append}
use Rattle.std.proofs.lemmas.List.Elements.{All-nil, All-cons}
use Rattle.t3_console.specs.Rendering.{is_newline, is_gap, is_separator, size_of, is_word, words_of, following, filled, rendering}
use Rattle.t3_console.specs.Inner.Stepping.{State, start, put, column_after, put_byte, after_byte, put_text, after_text}
use Rattle.t3_console.proofs.Stepping.{IsWhole, whole_parts, put_byte-word, after_byte-word, put_byte-separator, after_byte-separator}

-- ---- words that go on in a line

-- words on a line that has come to a column, or is empty
abbrev pub continued : ℕ → Option ℕ → List (List ℕ) → List ℕ
continued width None words = filled width words
continued width (Some column) words = following width column words

following-word : (width column byte : ℕ) (word : List ℕ) (words : List (List ℕ)) (fits : Bool)
    → leb (column + 1 + size_of (byte ∷ word)) width ≡ fits
    → following width column ((byte ∷ word) ∷ words) ≡ put width (Some column) (byte ∷ word) ++ continued width
    (column_after width (Some column) (byte ∷ word)) words
unfolding following
following-word width column byte word words true fits = rw fits (sym (append_assoc (32 ∷ []) (byte ∷ word) _))
following-word width column byte word words false fits = rw fits (sym (append_assoc (10 ∷ []) (byte ∷ word) _))

-- a word, if it is one, and those after it
continued-word : (width : ℕ) (column : Option ℕ) (word : List ℕ) (words : List (List ℕ))
    → continued width column (filter is_word (word ∷ words)) ≡ put width column word ++ continued width
    (column_after width column word) (filter is_word words)
continued-word width column [] words = refl
continued-word width None (byte ∷ word) words = refl
continued-word width (Some column) (byte ∷ word) words = following-word width column byte word (filter is_word words)
    (leb (column + 1 + size_of (byte ∷ word)) width) refl

continued-none : (width : ℕ) (column : Option ℕ) → continued width column [] ≡ []
unfolding following
continued-none width None = refl
continued-none width (Some column) = refl

-- ---- bytes that part nothing

second_false : (a b : Bool) → (a || b) ≡ false → b ≡ false
second_false true b is = absurd cc
second_false false b is = is

not_gap : (byte : ℕ) → is_separator byte ≡ false → is_gap byte ≡ false
not_gap byte is = second_false (is_newline byte) (is_gap byte) is

first_false : (a b : Bool) → (a || b) ≡ false → a ≡ false
first_false true b is = absurd cc
first_false false b is = refl

pub not_newline : (byte : ℕ) → is_separator byte ≡ false → is_newline byte ≡ false
not_newline byte is = first_false (is_newline byte) (is_gap byte) is

no_gaps : (word : List ℕ) → IsWhole word → All (λ byte. is_gap byte ≡ false) word
no_gaps [] whole = All-nil (λ byte. is_gap byte ≡ false)
no_gaps (byte ∷ word) whole =
    let parts = whole_parts byte word whole in
    All-cons (λ b. is_gap b ≡ false) byte word (not_gap byte parts.0) (no_gaps word parts.1)

-- a paragraph that begins with a word that isn't ended, and then a gap
words_of-gap : (width : ℕ) (column : Option ℕ) (word : List ℕ) (byte : ℕ) (paragraph : List ℕ) → IsWhole word → is_gap byte ≡ true
    → continued width column (words_of (word ++ byte ∷ paragraph)) ≡ put width column word ++ continued width
    (column_after width column word) (words_of paragraph)
words_of-gap width column word byte paragraph whole is =
    ap (λ parts. continued width column (filter is_word parts)) (slice_split_at is_gap word byte paragraph (no_gaps word whole) is)
    ∙ continued-word width column word (slice_split is_gap paragraph)

-- a paragraph that is one word
words_of-whole : (width : ℕ) (column : Option ℕ) (word : List ℕ) → IsWhole word
    → continued width column (words_of word) ≡ put width column word
words_of-whole width column word whole =
    ap (λ parts. continued width column (filter is_word parts)) (slice_split_none is_gap word (no_gaps word whole))
    ∙ continued-word width column word []
    ∙ ap (λ rest. put width column word ++ rest) (continued-none width (column_after width column word))
    ∙ append-nil (put width column word)

-- ---- paragraphs

abbrev paragraph_text : ℕ → List ℕ → List ℕ
paragraph_text width paragraph = filled width (words_of paragraph)

-- the paragraphs after the first, each after a newline
abbrev more_text : ℕ → List (List ℕ) → List ℕ
more_text width paragraphs = flat_map (λ paragraph. 10 ∷ paragraph_text width paragraph) paragraphs

-- what is still to be put out of a line, a word that isn't ended and the paragraphs that come
abbrev rest_text : ℕ → Option ℕ → List ℕ → List (List ℕ) → List ℕ
rest_text width column word [] = continued width column (words_of word)
rest_text width column word (paragraph ∷ paragraphs) = continued width column (words_of (word ++ paragraph)) ++ more_text width paragraphs

joined : (width : ℕ) (first : List ℕ) (paragraphs : List (List ℕ)) → join_with_byte 10
    (map (λ p. filled width (words_of p)) (first ∷ paragraphs)) ≡ paragraph_text width first ++ more_text width paragraphs
joined width first [] = sym (append-nil (paragraph_text width first))
joined width first (next ∷ paragraphs) = ap (λ rest. paragraph_text width first ++ 10 ∷ rest) (joined width next paragraphs)

rendered_rest : (width : ℕ) (paragraphs : List (List ℕ)) → join_with_byte 10
    (map (λ p. filled width (words_of p)) paragraphs) ≡ rest_text width None [] paragraphs
rendered_rest width [] = refl
rendered_rest width (first ∷ paragraphs) = joined width first paragraphs

-- one more paragraph before those that come
rest_text-newline : (width : ℕ) (column : Option ℕ) (word : List ℕ) (paragraphs : List (List ℕ)) → IsWhole word
    → rest_text width column word ([] ∷ paragraphs) ≡ put width column word ++ more_text width paragraphs
rest_text-newline width column word paragraphs whole =
    ap (λ w. continued width column (words_of w) ++ more_text width paragraphs) (append-nil word)
    ∙ ap (λ prefix. prefix ++ more_text width paragraphs) (words_of-whole width column word whole)

-- there is always a first paragraph
some_parts : (text : List ℕ) → 0 < length (slice_split is_newline text)
some_parts text = omega (arith, length-slice_split is_newline text)

first_of_some : (width : ℕ) (paragraphs : List (List ℕ)) → 0 < length paragraphs
    → more_text width paragraphs ≡ 10 ∷ rest_text width None [] paragraphs
first_of_some width [] some = absurd (omega arith)
first_of_some width (first ∷ paragraphs) some = refl

more_text-first : (width : ℕ) (text : List ℕ) → more_text width (slice_split is_newline text) ≡ 10 ∷ rest_text width None []
    (slice_split is_newline text)
more_text-first width text = first_of_some width (slice_split is_newline text) (some_parts text)

rest_text-gap : (width : ℕ) (column : Option ℕ) (word : List ℕ) (byte : ℕ) (paragraphs : List (List ℕ)) → IsWhole word → is_gap byte ≡ true
    → rest_text width column word (onto_first byte paragraphs) ≡ put width column word ++ rest_text width
    (column_after width column word) [] paragraphs
rest_text-gap width column word byte [] whole is =
    append-nil (continued width column (words_of (word ++ byte ∷ []))) ∙ words_of-gap width column word byte [] whole is
rest_text-gap width column word byte (first ∷ paragraphs) whole is =
    ap (λ prefix. prefix ++ more_text width paragraphs) (words_of-gap width column word byte first whole is)
    ∙ append_assoc (put width column word) (continued width (column_after width column word) (words_of first)) (more_text width paragraphs)

rest_text-byte : (width : ℕ) (column : Option ℕ) (word : List ℕ) (byte : ℕ) (paragraphs : List (List ℕ))
    → rest_text width column word (onto_first byte paragraphs) ≡ rest_text width column (word ++ byte ∷ []) paragraphs
rest_text-byte width column word byte [] = append-nil (continued width column (words_of (word ++ byte ∷ [])))
rest_text-byte width column word byte (first ∷ paragraphs) =
    ap (λ w. continued width column (words_of w) ++ more_text width paragraphs) (sym (append_assoc word (byte ∷ []) first))

-- ---- texts

-- what a text puts out, and the word that is left
abbrev pub whole_text : ℕ → State → List ℕ → List ℕ
whole_text width s text = put_text width s text ++ put width (after_text width s text).column (after_text width s text).word

whole_step : (width : ℕ) (s : State) (byte : ℕ) (text : List ℕ) → whole_text width s
    (byte ∷ text) ≡ put_byte width s byte ++ whole_text width (after_byte width s byte) text
whole_step width s byte text =
    let after = after_text width s (byte ∷ text) in
    append_assoc (put_byte width s byte) (put_text width (after_byte width s byte) text) (put width after.column after.word)

-- by what the byte is: a newline, a gap, or a part of a word
pub data Parts (byte : ℕ) : Type 0 where
  newline : is_newline byte ≡ true → Parts byte
  gap : is_newline byte ≡ false → is_gap byte ≡ true → Parts byte
  part : is_separator byte ≡ false → Parts byte

parts_from : (byte : ℕ) (a b : Bool) → is_newline byte ≡ a → is_gap byte ≡ b → Parts byte
parts_from byte true b is_n is_g = newline is_n
parts_from byte false true is_n is_g = gap is_n is_g
parts_from byte false false is_n is_g = part (rw (is_n, is_g) refl)

pub parts_as : (byte : ℕ) → Parts byte
parts_as byte = parts_from byte (is_newline byte) (is_gap byte) refl refl

pub separator-newline : (byte : ℕ) → is_newline byte ≡ true → is_separator byte ≡ true
separator-newline byte is = rw is refl

pub separator-gap : (byte : ℕ) → is_newline byte ≡ false → is_gap byte ≡ true → is_separator byte ≡ true
separator-gap byte is is_g = rw (is, is_g) refl

pub whole_longer : (word : List ℕ) (byte : ℕ) → IsWhole word → is_separator byte ≡ false → IsWhole (word ++ byte ∷ [])
whole_longer word byte whole is = list_any-append is_separator word (byte ∷ []) ∙ (rw (whole, is) refl)

whole_rest : (width : ℕ) (s : State) (text : List ℕ) → IsWhole s.word
    → whole_text width s text ≡ rest_text width s.column s.word (slice_split is_newline text)
whole_rest width s [] whole =
    sym (append-nil (continued width s.column (words_of (s.word ++ [])))
    ∙ ap (λ w. continued width s.column (words_of w)) (append-nil s.word) ∙ words_of-whole width s.column s.word whole)
whole_rest width s (byte ∷ text) whole =
    elim (parts_as byte) [
      | newline is ↦
          let ends = separator-newline byte is in
          let next : State = record { column = None; word = [] } in
          let state : after_byte width s byte ≡ next = after_byte-separator width s byte ends ∙ (rw is refl) in
          let out : put_byte width s byte ≡ put width s.column s.word ++ 10 ∷ [] = put_byte-separator width s byte ends ∙ (rw is refl) in
          whole_step width s byte text
          ∙ ap (λ t. put_byte width s byte ++ whole_text width t text) state
          ∙ ap (λ o. o ++ whole_text width next text) out
          ∙ append_assoc (put width s.column s.word) (10 ∷ []) (whole_text width next text)
          ∙ ap (λ rest. put width s.column s.word ++ 10 ∷ rest) (whole_rest width next text refl)
          ∙ ap (λ rest. put width s.column s.word ++ rest) (sym (more_text-first width text))
          ∙ sym (rest_text-newline width s.column s.word (slice_split is_newline text) whole)
          ∙ ap (rest_text width s.column s.word) (sym (slice_split-cons_yes is_newline byte text is))
      | gap is is_g ↦
          let ends = separator-gap byte is is_g in
          let next : State = record { column = column_after width s.column s.word; word = [] } in
          let state : after_byte width s byte ≡ next = after_byte-separator width s byte ends ∙ (rw is refl) in
          let out : put_byte width s byte ≡ put width s.column s.word = put_byte-separator width s byte ends
          ∙ (rw is (append-nil (put width s.column s.word))) in
          whole_step width s byte text
          ∙ ap (λ t. put_byte width s byte ++ whole_text width t text) state
          ∙ ap (λ o. o ++ whole_text width next text) out
          ∙ ap (λ rest. put width s.column s.word ++ rest) (whole_rest width next text refl)
          ∙ sym (rest_text-gap width s.column s.word byte (slice_split is_newline text) whole is_g)
          ∙ ap (rest_text width s.column s.word) (sym (slice_split-cons_no is_newline byte text is))
      | part is ↦
          let next : State = record { column = s.column; word = s.word ++ byte ∷ [] } in
          whole_step width s byte text
          ∙ ap (λ o. o ++ whole_text width (after_byte width s byte) text) (put_byte-word width s byte is)
          ∙ ap (λ t. whole_text width t text) (after_byte-word width s byte is)
          ∙ whole_rest width next text (whole_longer s.word byte whole is)
          ∙ sym (rest_text-byte width s.column s.word byte (slice_split is_newline text))
          ∙ ap (rest_text width s.column s.word) (sym (slice_split-cons_no is_newline byte text (not_newline byte is)))
    ]

-- the rendering of a text
pub rendering_is : (width : ℕ) (text : List ℕ) → rendering width text ≡ whole_text width start text
unfolding rendering
rendering_is width text = rendered_rest width (slice_split is_newline text) ∙ sym (whole_rest width start text refl)
