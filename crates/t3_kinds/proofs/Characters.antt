-- The characters of a text in UTF-8: how many they are, and where each begins.
use Rattle.std.proofs.Common.{◌≡◌, ℕ, zero, suc, ◌+◌, ◌/◌, ◌%◌, ◌<◌, ◌≤◌, ◌-◌, ◌==◌, Bool, true, false, cond, not, ◌&&◌, nat_lt, List, [], ◌∷◌, ◌++◌, length, length-append, take, drop, refl, sym, ap, ◌∙◌, arith}
use Rattle.std.proofs.lemmas.Bool.{le-leb, lt-leb, lt-ltb, le-ltb, ltb-true, ne_eqb}
use Rattle.std.proofs.lemmas.List.{take-append-drop}
use Rattle.std.proofs.lemmas.List.Sums.{sum_by-cons}
use Rattle.std.proofs.lemmas.Str.{encodes-append}
use Rattle.std.proofs.Math.Nat.{mod-lt}
use Rattle.std.proofs.Math.Seq.{take-append_seam, drop-append_seam, take-nil}
use Rattle.std.proofs.Math.Utf8.{encode, encodes}
use Rattle.t3_kinds.specs.TextMethods.{begins, character_count, character_start, HasCharacters}

-- ---- the bytes of a character: the first begins it, and no other

abbrev AreContinuing : List ℕ → Type 0
AreContinuing [] = Unit {0}
AreContinuing (byte ∷ bytes) = (begins byte ≡ false) × AreContinuing bytes

abbrev IsCharacter : List ℕ → Type 0
IsCharacter [] = ⊥
IsCharacter (byte ∷ bytes) = (begins byte ≡ true) × AreContinuing bytes

continuing : (bits : ℕ) → begins (128 + bits % 64) ≡ false
continuing bits =
    let less = mod-lt bits {m = 64} (omega arith) in
    ap (λ b. not (b && nat_lt (128 + bits % 64) 192)) (le-leb 128 (128 + bits % 64) (omega arith))
    ∙ ap not (lt-ltb (128 + bits % 64) 192 (omega (arith, less)))

low : (byte : ℕ) → byte < 128 → begins byte ≡ true
low byte less = ap (λ b. not (b && nat_lt byte 192)) (lt-leb 128 byte less)

high : (byte : ℕ) → 192 ≤ byte → begins byte ≡ true
high byte past = ap (λ b. not (b && nat_lt byte 192)) (le-leb 128 byte (omega arith)) ∙ ap not (le-ltb byte 192 past)

encoded : (c : ℕ) → IsCharacter (encode c)
unfolding encode
encoded c = one (nat_lt c 128) refl
  where
    three : (b : Bool) → IsCharacter (cond b ((224 + c / 4096) ∷ (128 + (c / 64) % 64) ∷ (128 + c % 64) ∷ [])
        ((240 + c / 262144) ∷ (128 + (c / 4096) % 64) ∷ (128 + (c / 64) % 64) ∷ (128 + c % 64) ∷ []))
    three true = (high (224 + c / 4096) (omega arith), (continuing (c / 64), (continuing c, tt)))
    three false = (high (240 + c / 262144) (omega arith), (continuing (c / 4096), (continuing (c / 64), (continuing c, tt))))

    two : (b : Bool) → IsCharacter (cond b ((192 + c / 64) ∷ (128 + c % 64) ∷ [])
        (cond (nat_lt c 65536) ((224 + c / 4096) ∷ (128 + (c / 64) % 64) ∷ (128 + c % 64) ∷ [])
        ((240 + c / 262144) ∷ (128 + (c / 4096) % 64) ∷ (128 + (c / 64) % 64) ∷ (128 + c % 64) ∷ [])))
    two true = (high (192 + c / 64) (omega arith), (continuing c, tt))
    two false = three (nat_lt c 65536)

    one : (b : Bool) → nat_lt c 128 ≡ b → IsCharacter (cond b (c ∷ []) (cond (nat_lt c 2048) ((192 + c / 64) ∷ (128 + c % 64) ∷ [])
        (cond (nat_lt c 65536) ((224 + c / 4096) ∷ (128 + (c / 64) % 64) ∷ (128 + c % 64) ∷ [])
        ((240 + c / 262144) ∷ (128 + (c / 4096) % 64) ∷ (128 + (c / 64) % 64) ∷ (128 + c % 64) ∷ []))))
    one true less = (low c (ltb-true c 128 less), tt)
    one false past = two (nat_lt c 2048)

-- ---- where the character of a number begins

start-past : (bytes more : List ℕ) → AreContinuing bytes → (number : ℕ)
    → character_start number (bytes ++ more) ≡ length bytes + character_start number more
start-past [] more are number = omega arith
start-past (byte ∷ bytes) more are number =
    let rest = start-past bytes more are.1 number in
    ap (λ b. cond (not b) (1 + character_start number (bytes ++ more)) (cond (number == 0) 0 (1 + character_start (number - 1) (bytes ++ more)))) are.0
    ∙ omega (arith, rest)

start-here : (bytes more : List ℕ) → IsCharacter bytes → character_start 0 (bytes ++ more) ≡ 0
start-here [] more is = absurd is
start-here (byte ∷ bytes) more is = ap (λ b. cond (not b) (1 + character_start 0 (bytes ++ more)) 0) is.0

start-next : (bytes more : List ℕ) → IsCharacter bytes → (number : ℕ)
    → character_start (suc number) (bytes ++ more) ≡ length bytes + character_start number more
start-next [] more is number = absurd is
start-next (byte ∷ bytes) more is number =
    let rest = start-past bytes more is.1 number in
    let after = character_start (suc number) (bytes ++ more) in
    let before : suc number - 1 ≡ number = omega arith in
    ap (λ b. cond (not b) (1 + after) (cond (suc number == 0) 0 (1 + character_start (suc number - 1) (bytes ++ more)))) is.0
    ∙ ap (λ b. cond b 0 (1 + character_start (suc number - 1) (bytes ++ more))) (ne_eqb (suc number) 0 (λ e. omega (arith, e)))
    ∙ ap (λ n. 1 + character_start n (bytes ++ more)) before
    ∙ omega (arith, rest)

starts : (points : List ℕ) (number : ℕ) → character_start number (encodes points) ≡ length (encodes (take number points))
starts [] number = ap (λ (ps : List ℕ). length (encodes ps)) (sym (take-nil number))
starts (c ∷ cs) zero = start-here (encode c) (encodes cs) (encoded c)
starts (c ∷ cs) (suc number) =
    start-next (encode c) (encodes cs) (encoded c) number ∙ ap (λ n. length (encode c) + n) (starts cs number)
    ∙ sym (length-append (encode c) (encodes (take number cs)))

-- ---- how many they are

counted-with : (byte : ℕ) (bytes : List ℕ) (b : Bool) → begins byte ≡ b → character_count (byte ∷ bytes) ≡ cond b 1 0 + character_count bytes
counted-with byte bytes b is =
    sum_by-cons (λ x. cond (begins x) 1 0) byte bytes ∙ ap (λ b. cond b 1 0 + character_count bytes) is

count-past : (bytes more : List ℕ) → AreContinuing bytes → character_count (bytes ++ more) ≡ character_count more
count-past [] more are = refl
count-past (byte ∷ bytes) more are =
    counted-with byte (bytes ++ more) false are.0 ∙ omega (arith, count-past bytes more are.1)

count-one : (bytes more : List ℕ) → IsCharacter bytes → character_count (bytes ++ more) ≡ suc (character_count more)
count-one [] more is = absurd is
count-one (byte ∷ bytes) more is =
    counted-with byte (bytes ++ more) true is.0 ∙ omega (arith, count-past bytes more is.1)

counts : (points : List ℕ) → character_count (encodes points) ≡ length points
counts [] = refl
counts (c ∷ cs) = count-one (encode c) (encodes cs) (encoded c) ∙ ap suc (counts cs)

-- ---- the law

parts : (points : List ℕ) (number : ℕ) → encodes points ≡ encodes (take number points) ++ encodes (drop number points)
parts points number = ap encodes (sym (take-append-drop number points)) ∙ encodes-append (take number points) (drop number points)

pub has_characters : (points : List ℕ) → HasCharacters points
has_characters points = record {
  count = counts points;
  from = λ number. ap (λ n. drop n (encodes points)) (starts points number)
      ∙ ap (drop (length (encodes (take number points)))) (parts points number)
      ∙ drop-append_seam (encodes (take number points)) (encodes (drop number points));
  up_to = λ number. ap (λ n. take n (encodes points)) (starts points number)
      ∙ ap (take (length (encodes (take number points)))) (parts points number)
      ∙ take-append_seam (encodes (take number points)) (encodes (drop number points));
}
