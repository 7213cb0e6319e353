-- Quoted texts of a listing read back.
use Rattle.std.proofs.Common.{◌≡◌, ℕ, zero, suc, ◌+◌, ◌*◌, ◌/◌, ◌%◌, ◌<◌, Bool, true, false, ◌&&◌, not, List, [], ◌∷◌, ◌++◌, length, get_or, refl, ap, subst, sym, ◌∙◌, append_assoc, Some, arith}
use Rattle.std.specs.Prelude.{◌==◌, slice_index}
use Rattle.std.specs.List.{list_all, flat_map}
use Rattle.std.proofs.lemmas.Bool.{and_parts, and_from, cond_both, eqb-true}
use Rattle.std.proofs.lemmas.List.Folds.{list_all-append}
use Rattle.std.proofs.lemmas.List.{append-nil}
use Rattle.hex.specs.Hex.{lower_digits, encode_lower, encode_with}
use Rattle.hex.proofs.HexLemmas.{IsDigits-lower_digits}
use Rattle.t3_holder.specs.NumberText.{AreBytes}
use Rattle.t3_asm_line.specs.declared.quoted.Due.TheVariants.{AnyByte}
use Rattle.t3_asm_line.specs.declared.words.Mode.TheVariants.{Plain, Quoted}
use Rattle.t3_asm_line.specs.Words.{words_from}
use Rattle.t3_asm_line.specs.Quoted.{text_from, with_byte, quoted_of}
use Rattle.t3_asm_line.specs.Listing.{escape_of, quoted_text, is_printable}
use Rattle.t3_asm_line.proofs.WordLaws.{is_one_line, IsWord}

-- ---- hexadecimal digits

-- a digit ends neither quotes nor a line, and escapes nothing
abbrev is_calm : ℕ → Bool
is_calm byte = (not (byte == 34) && not (byte == 92)) && not (byte == 10)

record IsCalm (byte : ℕ) : Type 0 where
  quote : byte == 34 ≡ false
  backslash : byte == 92 ≡ false
  newline : byte == 10 ≡ false

all_not : (a b c : Bool) → ((not a && not b) && not c) ≡ true → (a ≡ false) × (b ≡ false) × (c ≡ false)
all_not false false false h = (refl, refl, refl)
all_not false false true h = absurd cc
all_not false true c h = absurd cc
all_not true b c h = absurd cc

pub list_all-get_or : (p : ℕ → Bool) (xs : List ℕ) (i : ℕ) → list_all p xs ≡ true → i < length xs → p (get_or xs i 0) ≡ true
list_all-get_or p [] i h less = absurd (omega arith)
list_all-get_or p (x ∷ xs) zero h less = (and_parts (p x) (list_all p xs) h).0
list_all-get_or p (x ∷ xs) (suc i) h less = list_all-get_or p xs i (and_parts (p x) (list_all p xs) h).1 (omega arith)

digit_is_calm : (d : ℕ) → d < 16 → IsCalm (slice_index lower_digits d)
digit_is_calm d h =
    let byte = slice_index lower_digits d in
    let parts = all_not (byte == 34) (byte == 92) (byte == 10) (list_all-get_or is_calm lower_digits d refl h) in
    record { quote = parts.0; backslash = parts.1; newline = parts.2 }

-- ---- one byte

-- these bytes stand for the byte in a quoted text, and end neither quotes nor a line
record Escapes (byte : ℕ) (bytes : List ℕ) : Type 0 where
  reads : (rest : List ℕ) → text_from AnyByte (bytes ++ rest) ≡ with_byte (Some byte) (text_from AnyByte rest)
  whole : (front rest : List ℕ) → words_from Quoted front (bytes ++ rest) ≡ words_from Quoted (front ++ bytes) rest
  one : is_one_line bytes ≡ true

-- two or four bytes go into the word one after the other
two_more : (front : List ℕ) (a b : ℕ) → (front ++ a ∷ []) ++ b ∷ [] ≡ front ++ (a ∷ b ∷ [])
two_more front a b = append_assoc front (a ∷ []) (b ∷ [])

four_more : (front : List ℕ) (a b c d : ℕ) → (((front ++ a ∷ []) ++ b ∷ []) ++ c ∷ []) ++ d ∷ [] ≡ front ++ (a ∷ b ∷ c ∷ d ∷ [])
four_more front a b c d =
    ap (λ w. (w ++ c ∷ []) ++ d ∷ []) (two_more front a b) ∙ two_more (front ++ (a ∷ b ∷ [])) c d
    ∙ append_assoc front (a ∷ b ∷ []) (c ∷ d ∷ [])

Escapes-quote : Escapes 34 (92 ∷ 34 ∷ [])
Escapes-quote = record { reads = λ rest. refl; whole = λ front rest. ap (λ w. words_from Quoted w rest) (two_more front 92 34); one = refl }

Escapes-backslash : Escapes 92 (92 ∷ 92 ∷ [])
Escapes-backslash = record {
  reads = λ rest. refl;
  whole = λ front rest. ap (λ w. words_from Quoted w rest)
      (two_more front 92 92);
  one = refl;
}

Escapes-newline : Escapes 10 (92 ∷ 110 ∷ [])
Escapes-newline = record {
  reads = λ rest. refl;
  whole = λ front rest. ap (λ w. words_from Quoted w rest)
      (two_more front 92 110);
  one = refl;
}

Escapes-plain : (byte : ℕ) → byte == 34 ≡ false → byte == 92 ≡ false → byte == 10 ≡ false → Escapes byte (byte ∷ [])
Escapes-plain byte quote backslash newline = record {
  reads = λ rest. rw (quote, backslash) refl;
  whole = λ front rest. rw (quote, backslash) refl;
  one = rw newline refl;
}

Escapes-digits : (byte : ℕ) → byte < 256 → Escapes byte (92 ∷ 120 ∷ encode_lower (byte ∷ []))
unfolding encode_with
Escapes-digits byte h =
    let high : byte / 16 < 16 = omega arith in
    let low : byte % 16 < 16 = omega arith in
    let first = digit_is_calm (byte / 16) high in
    let second = digit_is_calm (byte % 16) low in
    let whole_byte : byte / 16 * 16 + byte % 16 ≡ byte = omega arith in
    let high_is = IsDigits-lower_digits (byte / 16) high in
    let low_is = IsDigits-lower_digits (byte % 16) low in
    record {
      reads = λ rest. rw (high_is, low_is) (ap (λ b. with_byte (Some b) (text_from AnyByte rest)) whole_byte);
      whole = λ front rest. rw (first.quote, first.backslash, second.quote, second.backslash)
          (ap (λ w. words_from Quoted w rest) (four_more front 92 120 (slice_index lower_digits (byte / 16))
          (slice_index lower_digits (byte % 16))));
      one = rw (first.newline, second.newline) refl;
    }

escapes : (byte : ℕ) → byte < 256 → Escapes byte (escape_of byte)
escapes byte h =
    cond_both (byte == 34) _ _ (Escapes byte)
    (λ quote. subst (λ b. Escapes b (92 ∷ 34 ∷ [])) (sym (eqb-true byte 34 quote)) Escapes-quote)
    (λ quote. cond_both (byte == 92) _ _ (Escapes byte)
    (λ backslash. subst (λ b. Escapes b (92 ∷ 92 ∷ [])) (sym (eqb-true byte 92 backslash)) Escapes-backslash)
    (λ backslash. cond_both (byte == 10) _ _ (Escapes byte)
    (λ newline. subst (λ b. Escapes b (92 ∷ 110 ∷ [])) (sym (eqb-true byte 10 newline)) Escapes-newline)
    (λ newline. cond_both (is_printable byte) _ _ (Escapes byte)
    (λ printable. Escapes-plain byte quote backslash newline)
    (λ other. Escapes-digits byte h))))

-- ---- whole texts

text_from-escapes : (bytes : List ℕ) → AreBytes bytes → text_from AnyByte (flat_map escape_of bytes ++ 34 ∷ []) ≡ Some bytes
text_from-escapes [] h = refl
text_from-escapes (byte ∷ bytes) h =
    ap (text_from AnyByte) (append_assoc (escape_of byte) (flat_map escape_of bytes) (34 ∷ []))
    ∙ (escapes byte h.0).reads (flat_map escape_of bytes ++ 34 ∷ []) ∙ ap (with_byte (Some byte)) (text_from-escapes bytes h.1)

pub quoted_of-quoted_text : (bytes : List ℕ) → AreBytes bytes → quoted_of (quoted_text bytes) ≡ Some bytes
unfolding quoted_of quoted_text
quoted_of-quoted_text bytes h = text_from-escapes bytes h

escapes_whole : (bytes : List ℕ) → AreBytes bytes → (front rest : List ℕ)
    → words_from Quoted front (flat_map escape_of bytes ++ rest) ≡ words_from Quoted (front ++ flat_map escape_of bytes) rest
escapes_whole [] h front rest = ap (λ w. words_from Quoted w rest) (sym (append-nil front))
escapes_whole (byte ∷ bytes) h front rest =
    ap (words_from Quoted front) (append_assoc (escape_of byte) (flat_map escape_of bytes) rest)
    ∙ (escapes byte h.0).whole front (flat_map escape_of bytes ++ rest) ∙ escapes_whole bytes h.1 (front ++ escape_of byte) rest
    ∙ ap (λ w. words_from Quoted w rest) (append_assoc front (escape_of byte) (flat_map escape_of bytes))

escapes_line : (bytes : List ℕ) → AreBytes bytes → is_one_line (flat_map escape_of bytes ++ 34 ∷ []) ≡ true
escapes_line [] h = refl
escapes_line (byte ∷ bytes) h =
    rw (append_assoc (escape_of byte) (flat_map escape_of bytes) (34 ∷ []))
    (list_all-append (λ b. not (b == 10)) (escape_of byte) (flat_map escape_of bytes ++ 34 ∷ [])
    ∙ and_from _ _ (escapes byte h.0).one (escapes_line bytes h.1))

pub IsWord-quoted : (bytes : List ℕ) → AreBytes bytes → IsWord (quoted_text bytes)
unfolding quoted_text
IsWord-quoted bytes h = record {
  whole = λ front rest.
      ap (words_from Quoted (front ++ 34 ∷ [])) (append_assoc (flat_map escape_of bytes) (34 ∷ []) rest)
      ∙ escapes_whole bytes h (front ++ 34 ∷ []) (34 ∷ rest)
      ∙ ap (λ w. words_from Plain w rest) (append_assoc (front ++ 34 ∷ []) (flat_map escape_of bytes) (34 ∷ [])
      ∙ append_assoc front (34 ∷ []) (flat_map escape_of bytes ++ 34 ∷ []));
  some = omega arith;
  one = escapes_line bytes h;
}
