-- What a listing spells in a field reads back as it.
use Rattle.std.proofs.Common.{◌≡◌, ℕ, zero, suc, ◌/◌, ◌%◌, ◌^◌, ◌<◌, Bool, true, false, ◌&&◌, List, [], ◌∷◌, length, refl, ap, Some, ◌⊎◌, inl, inr, arith}
use Rattle.std.specs.Prelude.{◌==◌, pos, nat_eq, codes, nat_lt}
use Rattle.std.specs.Char.{is_digit, digit_value}
use Rattle.std.specs.Fmt.{decimal}
use Rattle.std.specs.Int.{IsInRange}
use Rattle.std.specs.List.{list_all, starts_with}
use Rattle.std.specs.Str.{bytes_eq}
use Rattle.std.specs.Str.Parse.{AllDigits}
use Rattle.std.proofs.lemmas.Bool.{and_from, ne_eqb, lt-ltb}
use Rattle.std.proofs.lemmas.Fmt.{decimal_is_IsNumeral}
use Rattle.std.proofs.lemmas.Slice.Eq.{bytes_eq-Decides}
use Rattle.std.proofs.lemmas.Str.Parse.{digit_from_value}
use Rattle.hex.specs.Hex.{encode_lower, encode_with, lower_digits, IsBytes}
use Rattle.hex.proofs.HexLemmas.{decode_of-encode_lower, length-encode_with}
use Rattle.t3_holder.specs.NumberText.{AreBytes}
use Rattle.t3_asm_line.specs.Numbers.{number_of}
use Rattle.t3_asm_line.specs.Hexadecimal.{hex_of}
use Rattle.t3_asm_line.specs.Listing.{hex_text}
use Rattle.t3_asm_line.proofs.WordLaws.{is_bare, IsWord, IsWord-bare}
use Rattle.t3_asm_line.proofs.QuotedLaws.{list_all-get_or}

-- ---- numbers

all_digits : (digits : List ℕ) → AllDigits 10 digits → list_all (λ digit. is_digit digit 10) digits ≡ true
all_digits [] h = refl
all_digits (digit ∷ digits) h = and_from _ _ (lt-ltb (digit_value digit) 10 h.0) (all_digits digits h.1)

digit_is_bare : (digit : ℕ) → IsInRange 48 57 digit → is_bare digit ≡ true
digit_is_bare digit h =
    let space : digit == 32 ≡ false = ne_eqb digit 32 (λ (e : digit ≡ 32). omega (arith, h.0)) in
    let quote : digit == 34 ≡ false = ne_eqb digit 34 (λ (e : digit ≡ 34). omega (arith, h.0)) in
    let comment : digit == 59 ≡ false = ne_eqb digit 59 (λ (e : digit ≡ 59). omega (arith, h.1)) in
    let newline : digit == 10 ≡ false = ne_eqb digit 10 (λ (e : digit ≡ 10). omega (arith, h.0)) in
    rw (space, quote, comment, newline) refl

all_bare : (digits : List ℕ) → AllDigits 10 digits → list_all is_bare digits ≡ true
all_bare [] h = refl
all_bare (digit ∷ digits) h = and_from _ _ (digit_is_bare digit (digit_from_value digit h.0)) (all_bare digits h.1)

pub IsWord-decimal : (n : ℕ) → n < 2 ^ 64 → IsWord (decimal n)
IsWord-decimal n small =
    let numeral = (decimal_is_IsNumeral n small).0 in
    IsWord-bare (decimal n) numeral.0 (all_bare (decimal n) numeral.1)

and-false : (b : Bool) → (b && false) ≡ false
and-false true = refl
and-false false = refl

not_digit : (byte digit : ℕ) → (byte < 48) ⊎ (57 < byte) → IsInRange 48 57 digit → nat_eq byte digit ≡ false
not_digit byte digit apart h = ne_eqb byte digit (λ (e : byte ≡ digit). elim apart [
  | inl low ↦ omega
      (arith, h.0)
  | inr high ↦ omega (arith, h.1)
])

-- digits begin with neither `0x` nor `-`
no_prefix : (digits : List ℕ) → AllDigits 10 digits → 0 < length digits
    → (starts_with nat_eq digits (codes "0x") ≡ false) × (starts_with nat_eq digits (codes "-") ≡ false)
no_prefix [] h some = absurd (omega arith)
no_prefix (a ∷ []) h some =
    let minus = not_digit 45 a (inl (omega arith)) (digit_from_value a h.0) in
    (and-false (nat_eq 48 a), rw minus refl)
no_prefix (a ∷ b ∷ digits) h some =
    let minus = not_digit 45 a (inl (omega arith)) (digit_from_value a h.0) in
    let mark = not_digit 120 b (inr (omega arith)) (digit_from_value b h.1.0) in
    (rw mark (and-false (nat_eq 48 a)), rw minus refl)

pub number_of-decimal : (n : ℕ) → n < 2 ^ 64 → number_of (decimal n) ≡ Some (pos n)
unfolding number_of
number_of-decimal n small =
    let read = decimal_is_IsNumeral n small in
    let apart = no_prefix (decimal n) read.0.1 read.0.0 in
    let some : nat_lt 0 (length (decimal n)) ≡ true = lt-ltb 0 (length (decimal n)) read.0.0 in
    let digits = all_digits (decimal n) read.0.1 in
    rw (apart.0, apart.1, some, digits, read.1) refl

-- ---- HEX

IsBytes-from : (bytes : List ℕ) → AreBytes bytes → IsBytes bytes
IsBytes-from [] h i = omega arith
IsBytes-from (byte ∷ bytes) h zero = h.0
IsBytes-from (byte ∷ bytes) h (suc i) = IsBytes-from bytes h.1 i

digits_bare : (bytes : List ℕ) → AreBytes bytes → list_all is_bare (encode_lower bytes) ≡ true
unfolding encode_with
digits_bare [] h = refl
digits_bare (byte ∷ bytes) h =
    and_from _ _ (list_all-get_or is_bare lower_digits (byte / 16) refl (omega arith))
    (and_from _ _ (list_all-get_or is_bare lower_digits (byte % 16) refl (omega arith)) (digits_bare bytes h.1))

pub IsWord-hex : (bytes : List ℕ) → AreBytes bytes → IsWord (hex_text bytes)
unfolding hex_text
IsWord-hex [] h = IsWord-bare (codes "-") (omega arith) refl
IsWord-hex (byte ∷ bytes) h =
    let long = length-encode_with lower_digits (byte ∷ bytes) in
    IsWord-bare (encode_lower (byte ∷ bytes)) (omega (arith, long)) (digits_bare (byte ∷ bytes) h)

false_unless : (b : Bool) → (b ≡ true → ⊥) → b ≡ false
false_unless true never = absurd (never refl)
false_unless false never = refl

pub hex_of-hex_text : (bytes : List ℕ) → AreBytes bytes → hex_of (hex_text bytes) ≡ Some bytes
unfolding hex_of hex_text
hex_of-hex_text [] h = refl
hex_of-hex_text (byte ∷ bytes) h =
    let word = encode_lower (byte ∷ bytes) in
    let long = length-encode_with lower_digits (byte ∷ bytes) in
    let other : bytes_eq word (codes "-") ≡ false =
    false_unless (bytes_eq word (codes "-")) (λ e. omega (arith, long, ap length ((bytes_eq-Decides word (codes "-")).0 e))) in
    rw (other, decode_of-encode_lower (byte ∷ bytes) (IsBytes-from (byte ∷ bytes) h)) refl
