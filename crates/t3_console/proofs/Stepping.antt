-- The page byte by byte, over words and texts.
use Rattle.std.proofs.Common.{◌≡◌, ℕ, zero, suc, ◌+◌, ◌-◌, ◌<◌, ◌≤◌, Bool, true, false, cond, eqb, ◌||◌, ⊎_elim, Option, Some, List, [], ◌∷◌, ◌++◌, length, take, drop, filter, sym, refl, ap, ◌∙◌, append_assoc, arith, zero-add}
use Rattle.std.proofs.Math.Nat.{suc-add}
use Rattle.std.proofs.lemmas.Bool.Decides.{eqb_tells}
use Rattle.std.specs.Prelude.{slice_index}
use Rattle.std.specs.List.{list_any}
use Rattle.std.proofs.lemmas.List.{append-nil, get_or-drop, take-append-drop, take_all, length-drop, length-append}
use Rattle.std.proofs.lemmas.List.Elements.{filter-append}
use Rattle.std.proofs.Math.Seq.{take-suc, take-append_seam, drop-append_seam}
use Rattle.t3_console.specs.Rendering.{is_separator, begins_character, size_of}
use Rattle.t3_console.specs.Inner.Stepping.{State, lead, column_past, put, column_after, separator_text, column_after_separator, put_byte, after_byte, put_text, after_text, IsNextWord, PutsWords}

-- no byte of it parts words
abbrev pub IsWhole : List ℕ → Type 0
IsWhole text = list_any is_separator text ≡ false

either_false : (a b : Bool) → (a || b) ≡ false → (a ≡ false) × (b ≡ false)
either_false true b is = absurd cc
either_false false b is = (refl, is)

pub whole_parts : (byte : ℕ) (text : List ℕ) → IsWhole (byte ∷ text) → (is_separator byte ≡ false) × IsWhole text
whole_parts byte text is = either_false (is_separator byte) (list_any is_separator text) is

-- ---- sizes

filter-no_longer : (p : ℕ → Bool) (xs : List ℕ) → length (filter p xs) ≤ length xs
filter-no_longer p [] = omega arith
filter-no_longer p (x ∷ xs) =
    let rest = filter-no_longer p xs in
    elim (p x) as (λ b. length (cond b (x ∷ filter p xs) (filter p xs)) ≤ suc (length xs)) [ true ↦ omega arith | false ↦ omega arith ]

pub size-no_longer : (text : List ℕ) → size_of text ≤ length text
size-no_longer text = filter-no_longer begins_character text

pub size-append : (xs ys : List ℕ) → size_of (xs ++ ys) ≡ size_of xs + size_of ys
size-append xs ys = ap length (filter-append begins_character xs ys) ∙ length-append (filter begins_character xs)
    (filter begins_character ys)

-- a word that is there
pub put-some : (width : ℕ) (column : Option ℕ) (word : List ℕ) → 0 < length word
    → put width column word ≡ lead width column (size_of word) ++ word
put-some width column [] some = absurd (omega arith)
put-some width column (byte ∷ word) some = refl

pub column_after-some : (width : ℕ) (column : Option ℕ) (word : List ℕ) → 0 < length word
    → column_after width column word ≡ Some (column_past width column (size_of word))
column_after-some width column [] some = absurd (omega arith)
column_after-some width column (byte ∷ word) some = refl

pub nothing : (xs ys : List ℕ) → length xs + length ys ≡ 0 → xs ++ ys ≡ []
nothing [] [] none = refl
nothing [] (y ∷ ys) none = absurd (omega arith)
nothing (x ∷ xs) ys none = absurd (omega arith)

-- ---- texts in a row

pub put_text-append : (width : ℕ) (s : State) (xs ys : List ℕ) → put_text width s (xs ++ ys) ≡ put_text width s xs ++ put_text width
    (after_text width s xs) ys
put_text-append width s [] ys = refl
put_text-append width s (x ∷ xs) ys =
    ap (λ rest. put_byte width s x ++ rest) (put_text-append width (after_byte width s x) xs ys)
    ∙ sym (append_assoc (put_byte width s x) (put_text width (after_byte width s x) xs) (put_text width (after_text width s (x ∷ xs)) ys))

pub after_text-append : (width : ℕ) (s : State) (xs ys : List ℕ) → after_text width s (xs ++ ys) ≡ after_text width
    (after_text width s xs) ys
after_text-append width s [] ys = refl
after_text-append width s (x ∷ xs) ys = after_text-append width (after_byte width s x) xs ys

-- ---- words

pub put_byte-word : (width : ℕ) (s : State) (byte : ℕ) → is_separator byte ≡ false → put_byte width s byte ≡ []
unfolding put_byte
put_byte-word width s byte is = rw is refl

pub after_byte-word : (width : ℕ) (s : State) (byte : ℕ) → is_separator byte ≡ false
    → after_byte width s byte ≡ record { column = s.column; word = s.word ++ byte ∷ [] }
unfolding after_byte
after_byte-word width s byte is = rw is refl

pub put_byte-separator : (width : ℕ) (s : State) (byte : ℕ) → is_separator byte ≡ true
    → put_byte width s byte ≡ put width s.column s.word ++ separator_text byte
unfolding put_byte
put_byte-separator width s byte is = rw is refl

pub after_byte-separator : (width : ℕ) (s : State) (byte : ℕ) → is_separator byte ≡ true
    → after_byte width s byte ≡ record { column = column_after_separator byte (column_after width s.column s.word); word = [] }
unfolding after_byte
after_byte-separator width s byte is = rw is refl

-- bytes of a word put out nothing
pub put_text-word : (width : ℕ) (s : State) (word : List ℕ) → IsWhole word → put_text width s word ≡ []
put_text-word width s [] whole = refl
put_text-word width s (byte ∷ word) whole =
    let parts = whole_parts byte word whole in
    rw (put_byte-word width s byte parts.0) (put_text-word width (after_byte width s byte) word parts.1)

-- they lengthen the word that isn't ended
pub after_text-word : (width : ℕ) (s : State) (word : List ℕ) → IsWhole word
    → after_text width s word ≡ record { column = s.column; word = s.word ++ word }
after_text-word width s [] whole = ap (λ w. record { column = s.column; word = w }) (sym (append-nil s.word))
after_text-word width s (byte ∷ word) whole =
    let parts = whole_parts byte word whole in
    rw (after_byte-word width s byte parts.0)
    (after_text-word width (record { column = s.column; word = s.word ++ byte ∷ [] }) word parts.1
    ∙ ap (λ w. record { column = s.column; word = w }) (append_assoc s.word (byte ∷ []) word))

-- a word and the separator that ends it
pub put_text-ended : (width : ℕ) (s : State) (word : List ℕ) (byte : ℕ) → IsWhole word → is_separator byte ≡ true
    → put_text width s (word ++ byte ∷ []) ≡ put width s.column (s.word ++ word) ++ separator_text byte
put_text-ended width s word byte whole is =
    let mid : State = record { column = s.column; word = s.word ++ word } in
    put_text-append width s word (byte ∷ [])
    ∙ ap (λ begun. begun ++ put_text width (after_text width s word) (byte ∷ [])) (put_text-word width s word whole)
    ∙ ap (λ state. put_text width state (byte ∷ [])) (after_text-word width s word whole)
    ∙ append-nil (put_byte width mid byte)
    ∙ put_byte-separator width mid byte is

pub after_text-ended : (width : ℕ) (s : State) (word : List ℕ) (byte : ℕ) → IsWhole word → is_separator byte ≡ true
    → after_text width s (word ++ byte ∷ []) ≡ record {
      column = column_after_separator byte
          (column_after width s.column (s.word ++ word));
      word = [];
    }
after_text-ended width s word byte whole is =
    let mid : State = record { column = s.column; word = s.word ++ word } in
    after_text-append width s word (byte ∷ [])
    ∙ ap (λ state. after_byte width state byte) (after_text-word width s word whole)
    ∙ after_byte-separator width mid byte is

-- ---- the loop over words

take-nil : (n : ℕ) (xs : List ℕ) → xs ≡ [] → take n xs ≡ xs
take-nil zero [] is = refl
take-nil zero (x ∷ xs) is = absurd cc
take-nil (suc n) [] is = refl
take-nil (suc n) (x ∷ xs) is = absurd cc

take_add : (m n : ℕ) (xs : List ℕ) → take (m + n) xs ≡ take m xs ++ take n (drop m xs)
take_add zero n xs = rw zero-add refl
take_add (suc m) n [] = rw suc-add (sym (take-nil n [] refl))
take_add (suc m) n (x ∷ xs) = rw suc-add (ap (λ rest. x ∷ rest) (take_add m n xs))

-- a slice up to the end
pub tail_is : (n : ℕ) (xs : List ℕ) → take (length xs - n) (drop n xs) ≡ drop n xs
tail_is n xs = take_all (length xs - n) (drop n xs) (omega (arith, length-drop n xs))

-- a slice of so many
pub part_is : (n long : ℕ) (xs : List ℕ) → take (n + long - n) (drop n xs) ≡ take long (drop n xs)
part_is n long xs = ap (λ m. take m (drop n xs)) (omega arith)

-- so much of the text was put out
pub record IsPutting (width : ℕ) (s : State) (text out_old out : List ℕ) (column : Option ℕ) (begun : List ℕ) (at : ℕ) : Type 0 where
  pub within : at ≤ length text
  pub put : out ≡ out_old ++ put_text width s (take at text)
  pub after : after_text width s (take at text) ≡ record { column = column; word = begun }
  pub begun_is : begun ≡ cond (eqb at 0) s.word []

pub putting_begun : (width : ℕ) (s : State) (text out : List ℕ) → IsPutting width s text out out s.column s.word 0
putting_begun width s text out = record { within = omega arith; put = sym (append-nil out); after = refl; begun_is = refl }

not_begun : (n : ℕ) (word : List ℕ) → [] ≡ cond (eqb (n + 1) 0) word []
not_begun n word = ⊎_elim (λ same. absurd (omega (arith, same.1))) (λ other. rw other.0 refl) (eqb_tells (n + 1) 0)

-- the next word, and the separator that ends it
pub putting_more : (width : ℕ) (s : State) (text out_old out out_new : List ℕ) (column column_new : Option ℕ) (begun : List ℕ)
    (at long size : ℕ)
    → IsPutting width s text out_old out column begun at → IsNextWord (drop at text) long size
    → out_new ≡ out ++ (put width column (begun ++ take long (drop at text)) ++ separator_text (slice_index text (at + long)))
    → column_new ≡ column_after_separator (slice_index text (at + long)) (column_after width column (begun ++ take long (drop at text)))
    → IsPutting width s text out_old out_new column_new [] (at + long + 1)
putting_more width s text out_old out out_new column column_new begun at long size so_far next put' column' =
    let byte = slice_index text (at + long) in
    let word = take long (drop at text) in
    let done = take at text in
    let byte_is : slice_index (drop at text) long ≡ byte = get_or-drop at text long 0 in
    let ends : is_separator byte ≡ true = ap is_separator (sym byte_is) ∙ next.ended in
    let here : IsWhole word = next.whole in
    let longer : take (at + long + 1) text ≡ done ++ (word ++ byte ∷ []) =
    ap (λ n. take n text) (omega arith) ∙ take_add at (suc long) text
    ∙ ap (λ rest. done ++ rest) (take-suc (drop at text) long 0 next.within ∙ ap (λ b. word ++ b ∷ []) byte_is) in
    let mid : State = record { column = column; word = begun } in
    let long_text = length-drop at text in
    record {
      within = omega (arith, next.within);
      put = put' ∙ ap (λ o. o ++ (put width column (begun ++ word) ++ separator_text byte)) so_far.put
          ∙ append_assoc out_old (put_text width s done) (put width column (begun ++ word) ++ separator_text byte)
          ∙ ap (λ rest. out_old ++ (put_text width s done ++ rest)) (sym (put_text-ended width mid word byte here ends))
          ∙ ap (λ state. out_old ++ (put_text width s done ++ put_text width state (word ++ byte ∷ []))) (sym so_far.after)
          ∙ ap (λ rest. out_old ++ rest) (sym (put_text-append width s done (word ++ byte ∷ [])))
          ∙ ap (λ t. out_old ++ put_text width s t) (sym longer);
      after = ap (after_text width s) longer ∙ after_text-append width s done (word ++ byte ∷ [])
          ∙ ap (λ state. after_text width state (word ++ byte ∷ [])) so_far.after
          ∙ after_text-ended width mid word byte here ends
          ∙ ap (λ c. record { column = c; word = [] }) (sym column');
      begun_is = not_begun (at + long) s.word;
    }

-- after the last separator
pub putting_done : (width : ℕ) (s : State) (text out_old out : List ℕ) (column : Option ℕ) (begun : List ℕ) (at : ℕ)
    → IsPutting width s text out_old out column begun at → IsWhole (drop at text) → PutsWords width s text out_old out column at
putting_done width s text out_old out column begun at so_far whole = record {
  within = so_far.within;
  rest = whole;
  put = so_far.put;
  after = so_far.after ∙ ap (λ w. record { column = column; word = w }) so_far.begun_is;
}

-- the rest of the text is the word that isn't ended
pub put_all : (width : ℕ) (s : State) (text out_old out : List ℕ) (column : Option ℕ) (at : ℕ)
    → PutsWords width s text out_old out column at → out ≡ out_old ++ put_text width s text
put_all width s text out_old out column at done =
    let begun = take at text in
    let rest = drop at text in
    done.put
    ∙ ap (λ o. out_old ++ o) (sym (append-nil (put_text width s begun))
    ∙ ap (λ o. put_text width s begun ++ o) (sym (put_text-word width (after_text width s begun) rest done.rest))
    ∙ sym (put_text-append width s begun rest)
    ∙ ap (put_text width s) (take-append-drop at text))

pub after_all : (width : ℕ) (s : State) (text out_old out : List ℕ) (column : Option ℕ) (at : ℕ)
    → PutsWords width s text out_old out column at
    → after_text width s text ≡ record { column = column; word = cond (eqb at 0) s.word [] ++ drop at text }
after_all width s text out_old out column at done =
    let begun = take at text in
    let rest = drop at text in
    ap (after_text width s) (sym (take-append-drop at text))
    ∙ after_text-append width s begun rest
    ∙ ap (λ state. after_text width state rest) done.after
    ∙ after_text-word width (record { column = column; word = cond (eqb at 0) s.word [] }) rest done.rest

-- ---- a word in two parts

some_of : (begun rest : List ℕ) → 0 < length begun + length rest → 0 < length (begun ++ rest)
some_of begun rest some = omega (arith, length-append begun rest)

pub word_put : (width : ℕ) (column : Option ℕ) (begun rest old led mid new before : List ℕ) (size rest_size : ℕ)
    → size ≡ size_of begun → rest_size ≡ size_of rest → 0 < length begun + length rest
    → before ≡ lead width column (size + rest_size) → led ≡ old ++ before → mid ≡ led ++ begun → new ≡ mid ++ rest
    → new ≡ old ++ put width column (begun ++ rest)
word_put width column begun rest old led mid new before size rest_size is rest_is some lead_is led_is mid_is new_is =
    let whole : size + rest_size ≡ size_of (begun ++ rest) = omega (arith, size-append begun rest) in
    new_is ∙ ap (λ x. x ++ rest) mid_is ∙ append_assoc led begun rest ∙ ap (λ x. x ++ (begun ++ rest)) led_is
    ∙ append_assoc old before (begun ++ rest)
    ∙ ap (λ x. old ++ (x ++ (begun ++ rest))) (lead_is ∙ ap (lead width column) whole)
    ∙ ap (λ x. old ++ x) (sym (put-some width column (begun ++ rest) (some_of begun rest some)))

pub column_put : (width : ℕ) (column : Option ℕ) (begun rest : List ℕ) (size rest_size past : ℕ)
    → size ≡ size_of begun → rest_size ≡ size_of rest → 0 < length begun + length rest
    → past ≡ column_past width column (size + rest_size) → Some past ≡ column_after width column (begun ++ rest)
column_put width column begun rest size rest_size past is rest_is some past_is =
    let whole : size + rest_size ≡ size_of (begun ++ rest) = omega (arith, size-append begun rest) in
    ap Some (past_is ∙ ap (column_past width column) whole) ∙ sym (column_after-some width column (begun ++ rest) (some_of begun rest some))

-- ---- the word that isn't ended, after what was taken

-- a list that is turned by its first part, and then loses it
pub turned : (begun rest whole around new : List ℕ) (n : ℕ) → whole ≡ begun ++ rest
    → around ≡ drop (length begun) whole ++ take (length begun) whole → n ≡ length rest → new ≡ take n around → new ≡ rest
turned begun rest whole around new n whole_is around_is n_is new_is =
    let back : drop (length begun) whole ≡ rest = ap (drop (length begun)) whole_is ∙ drop-append_seam begun rest in
    new_is ∙ ap (λ m. take m around) n_is ∙ ap (take (length rest)) (around_is ∙ ap (λ b. b ++ take (length begun) whole) back)
    ∙ take-append_seam rest (take (length begun) whole)

pub some_at : (at : ℕ) (word : List ℕ) → 0 < at → cond (eqb at 0) word [] ≡ []
some_at at word some = ⊎_elim (λ same. absurd (omega (arith, same.1))) (λ other. rw other.0 refl) (eqb_tells at 0)

pub none_at : (at : ℕ) (word : List ℕ) → at ≤ 0 → cond (eqb at 0) word [] ≡ word
none_at at word none = ⊎_elim (λ same. rw same.0 refl) (λ other. absurd (other.1 (omega arith))) (eqb_tells at 0)

-- the word and the text after it, where something was put out
pub said_some : (width : ℕ) (column column_new : Option ℕ) (begun text out_old out new : List ℕ) (at : ℕ)
    → PutsWords width (record { column = column; word = begun }) text out_old out column_new at → 0 < at
    → new ≡ drop at text → record { column = column_new; word = new } ≡ after_text width (record { column = column; word = begun }) text
said_some width column column_new begun text out_old out new at done some is =
    let s : State = record { column = column; word = begun } in
    ap (λ w. record { column = column_new; word = w }) (is ∙ ap (λ w. w ++ drop at text) (sym (some_at at begun some)))
    ∙ sym (after_all width s text out_old out column_new at done)

-- where nothing was
pub said_none : (width : ℕ) (column column_new : Option ℕ) (begun text out_old out new : List ℕ) (at : ℕ)
    → PutsWords width (record { column = column; word = begun }) text out_old out column_new at → at ≤ 0
    → new ≡ begun ++ drop at text → record { column = column_new; word = new } ≡ after_text width
    (record { column = column; word = begun }) text
said_none width column column_new begun text out_old out new at done none is =
    let s : State = record { column = column; word = begun } in
    ap (λ w. record { column = column_new; word = w }) (is ∙ ap (λ w. w ++ drop at text) (sym (none_at at begun none)))
    ∙ sym (after_all width s text out_old out column_new at done)
