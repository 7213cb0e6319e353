-- Numbers as bytes: how long they are, that they say the number, and that no other bytes do. Other crates may use what stands here.
use Rattle.std.proofs.Common.{◌≡◌, ℕ, zero, suc, ◌+◌, ◌*◌, ◌/◌, ◌%◌, ◌^◌, ◌<◌, ◌≤◌, List, [], ◌∷◌, length, get_or, take, drop, refl, sym, ap, ◌∙◌, arith}
use Rattle.std.proofs.lemmas.List.{drop_more, take_all}
use Rattle.std.specs.Int.{w16, w32, to_le_bytes}
use Rattle.t3_holder.specs.NumberText.{little_endian, value_of, AreBytes, IsNumberText}

pub length-little_endian : (width n : ℕ) → length (little_endian width n) ≡ width
unfolding little_endian
length-little_endian zero n = refl
length-little_endian (suc width) n = ap suc (length-little_endian width (n / 256))

pub AreBytes-little_endian : (width n : ℕ) → AreBytes (little_endian width n)
unfolding little_endian
AreBytes-little_endian zero n = tt
AreBytes-little_endian (suc width) n = (omega arith, AreBytes-little_endian width (n / 256))

below_quotient : (width n : ℕ) → n < 256 ^ suc width → n / 256 < 256 ^ width
below_quotient width n lt = omega arith

pub value_of-little_endian : (width n : ℕ) → n < 256 ^ width → value_of (little_endian width n) ≡ n
unfolding little_endian
value_of-little_endian zero n lt = omega arith
value_of-little_endian (suc width) n lt =
    let rest = value_of-little_endian width (n / 256) (below_quotient width n lt) in
    omega (arith, rest)

-- bytes are the text of what they say
pub little_endian-value_of : (text : List ℕ) → AreBytes text → little_endian (length text) (value_of text) ≡ text
unfolding little_endian
little_endian-value_of [] bytes = refl
little_endian-value_of (byte ∷ text) bytes =
    let low : (byte + 256 * value_of text) % 256 ≡ byte = omega (arith, bytes.0) in
    let high : (byte + 256 * value_of text) / 256 ≡ value_of text = omega (arith, bytes.0) in
    rw (low, high) (ap (λ (t : List ℕ). byte ∷ t) (little_endian-value_of text bytes.1))

-- so many bytes say a number that fits in them
pub value_fits : (width : ℕ) (bytes : List ℕ) → AreBytes bytes → length bytes ≡ width → value_of bytes < 256 ^ width
value_fits zero [] all long = omega arith
value_fits (suc width) [] all long = absurd (omega arith)
value_fits zero (b ∷ bytes) all long = absurd (omega arith)
value_fits (suc width) (b ∷ bytes) all long =
    let rest = value_fits width bytes all.1 (omega arith) in
    omega (arith, all.0)

pub only_text : (width n : ℕ) (text : List ℕ) → IsNumberText width n text → text ≡ little_endian width n
only_text width n text is =
    sym (little_endian-value_of text is.bytes) ∙ ap (λ (w : ℕ). little_endian w (value_of text)) is.wide ∙ ap (little_endian width) is.value

pub is_text : (width n : ℕ) → n < 256 ^ width → IsNumberText width n (little_endian width n)
is_text width n lt = record {
  wide = length-little_endian width n;
  bytes = AreBytes-little_endian width n;
  value = value_of-little_endian width n lt;
}

-- two numbers that fit and have one text are one
pub same_number : (width m n : ℕ) → m < 256 ^ width → n < 256 ^ width → little_endian width m ≡ little_endian width n → m ≡ n
same_number width m n fits_m fits_n same =
    sym (value_of-little_endian width m fits_m) ∙ ap value_of same ∙ value_of-little_endian width n fits_n

pub two_at : (xs : List ℕ) (i : ℕ) → i + 2 ≤ length xs → take 2 (drop i xs) ≡ get_or xs i 0 ∷ get_or xs (i + 1) 0 ∷ []
two_at xs i le =
    rw (drop_more xs i 0 (omega arith), drop_more xs (i + 1) 0 (omega arith)) refl

pub four_at : (xs : List ℕ) (i : ℕ) → i + 4 ≤ length xs
    → take 4 (drop i xs) ≡ get_or xs i 0 ∷ get_or xs (i + 1) 0 ∷ get_or xs (i + 2) 0 ∷ get_or xs (i + 3) 0 ∷ []
four_at xs i le =
    let second : i + 1 + 1 ≡ i + 2 = omega arith in
    let third : i + 2 + 1 ≡ i + 3 = omega arith in
    rw (
      drop_more xs i 0 (omega arith),
      drop_more xs (i + 1) 0 (omega arith),
      second,
      drop_more xs (i + 2) 0 (omega arith),
      third,
      drop_more xs (i + 3) 0 (omega arith),
    ) refl

pub four_parts : (xs : List ℕ) → length xs ≡ 4 → get_or xs 0 0 ∷ get_or xs 1 0 ∷ get_or xs 2 0 ∷ get_or xs 3 0 ∷ [] ≡ xs
four_parts xs long = sym (four_at xs 0 (omega arith)) ∙ take_all 4 xs (omega arith)

-- ---- the bytes of a number as the library writes them

pub written_two : (n : ℕ) → to_le_bytes w16 n ≡ little_endian 2 n
unfolding little_endian
written_two n =
    let second : n / 256 ^ 1 % 256 ≡ n / 256 % 256 = omega arith in
    λ i. n % 256 ∷ second i ∷ []

pub written_four : (n : ℕ) → to_le_bytes w32 n ≡ little_endian 4 n
unfolding little_endian
written_four n =
    let second : n / 256 ^ 1 % 256 ≡ n / 256 % 256 = omega arith in
    let third : n / 256 ^ 2 % 256 ≡ n / 256 / 256 % 256 = omega arith in
    let fourth : n / 256 ^ 3 % 256 ≡ n / 256 / 256 / 256 % 256 = omega arith in
    λ i. n % 256 ∷ second i ∷ third i ∷ fourth i ∷ []
