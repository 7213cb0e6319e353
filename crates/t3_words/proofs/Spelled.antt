-- The texts that spell a number from 1 to 4294967295.
use Rattle.std.proofs.Common.{◌≡◌, ℕ, zero, suc, ◌^◌, ◌≤◌, ◌<◌, Bool, true, false, ◌&&◌, cond, List, [], ◌∷◌, length, get_or, Some, None, Result, Ok, Err, refl, sym, ap, subst, ◌∙◌, arith}
use Rattle.std.specs.Prelude.{nat_le, nat_lt}
use Rattle.std.specs.Fmt.{decimal}
use Rattle.std.specs.Int.{IsInRange}
use Rattle.std.specs.Result.{result_ok}
use Rattle.std.specs.Str.{bytes_eq}
use Rattle.std.specs.Str.Parse.{AllDigits, digits_value, ParsesUnsigned}
use Rattle.std.proofs.lemmas.Fmt.{decimal_is_IsNumeral, decimal_digit, first_decimal, decimal-digits_value}
use Rattle.std.proofs.lemmas.Slice.Eq.{bytes_eq-Decides}
use Rattle.std.proofs.lemmas.Str.Parse.{numerals_by_value, tells_digits, digit_at, parse_plain}
use borrow.Author.Tests.{leb-true, le-leb, ltb-true, lt-ltb}
use Rattle.t3_words.specs.Number.{spelled_number}
use Rattle.t3_words.specs.Inner.Parsing.{positive_of}

-- the test of `positive_of`
abbrev fits : List ℕ → Bool
fits text = (bytes_eq text (decimal (digits_value 10 text)) && nat_le 1 (digits_value 10 text)) && nat_lt (digits_value 10 text) (2 ^ 32)

all_true : (a b c : Bool) → ((a && b) && c) ≡ true → (a ≡ true) × (b ≡ true) × (c ≡ true)
all_true true true true e = (refl, refl, refl)
all_true true true false e = absurd cc
all_true true false c e = absurd cc
all_true false b c e = absurd cc

none_unless : (b : Bool) (n : ℕ) → (b ≡ true → ⊥) → cond b (Some n) None ≡ None
none_unless true n never = absurd (never refl)
none_unless false n never = refl

-- the text is the spelling of a number from 1 to 4294967295
record Spells (text : List ℕ) : Type 0 where
  is : text ≡ decimal (digits_value 10 text)
  some : 0 < digits_value 10 text
  small : digits_value 10 text < 2 ^ 32

spells_of : (text : List ℕ) → fits text ≡ true → Spells text
spells_of text e =
    let n = digits_value 10 text in
    let all = all_true (bytes_eq text (decimal n)) (nat_le 1 n) (nat_lt n (2 ^ 32)) e in
    record {
      is = (bytes_eq-Decides text (decimal n)).0 all.0;
      some = leb-true 1 n all.1;
      small = ltb-true n (2 ^ 32) all.2;
    }

none_of : (text : List ℕ) → (Spells text → ⊥) → positive_of text ≡ None
none_of text never = none_unless (fits text) (digits_value 10 text) (λ e. never (spells_of text e))

some_of : (text : List ℕ) → Spells text → positive_of text ≡ Some (digits_value 10 text)
some_of text spells =
    let n = digits_value 10 text in
    let same : bytes_eq text (decimal n) ≡ true = (bytes_eq-Decides text (decimal n)).1 spells.is in
    let least : nat_le 1 n ≡ true = le-leb 1 n spells.some in
    let most : nat_lt n (2 ^ 32) ≡ true = lt-ltb n (2 ^ 32) spells.small in
    ap (λ b. cond ((b && nat_le 1 n) && nat_lt n (2 ^ 32)) (Some n) None) same
    ∙ ap (λ b. cond (b && nat_lt n (2 ^ 32)) (Some n) None) least
    ∙ ap (λ b. cond b (Some n) None) most

-- a spelling begins with a digit that is not 0
first_digit : (text : List ℕ) → Spells text → IsInRange 49 57 (get_or text 0 0)
first_digit text spells =
    let n = digits_value 10 text in
    let numeral = decimal_is_IsNumeral n (omega (arith, spells.small)) in
    let first : 48 < get_or (decimal n) 0 0 = first_decimal n spells.some (omega (arith, spells.small)) in
    let digit : IsInRange 48 57 (get_or (decimal n) 0 0) = digit_at (decimal n) 0 numeral.0.1 numeral.0.0 in
    subst (λ t. IsInRange 49 57 (get_or t 0 0)) (sym spells.is) (omega arith, digit.1)

-- a text that begins with another byte spells none
pub none_below : (text : List ℕ) → get_or text 0 0 < 49 → None ≡ positive_of text
none_below text low = sym (none_of text (λ spells. omega (arith, (first_digit text spells).0)))

pub none_above : (text : List ℕ) → 57 < get_or text 0 0 → None ≡ positive_of text
none_above text high = sym (none_of text (λ spells. omega (arith, (first_digit text spells).1)))

above_zero : (text : List ℕ) (n : ℕ) → decimal n ≡ text → 49 ≤ get_or text 0 0 → 0 < n
above_zero text zero is first = absurd (omega (arith, ap (λ t. get_or t 0 0) (sym (decimal_digit 0 (omega arith)) ∙ is)))
above_zero text (suc n) is first = omega arith

-- digits spell their number where the first is not 0
digits_spell : (text : List ℕ) → AllDigits 10 text → 0 < length text → digits_value 10 text < 2 ^ 32 → 49 ≤ get_or text 0 0 → Spells text
digits_spell text digits long small first =
    let n = digits_value 10 text in
    let is : decimal n ≡ text =
    decimal-digits_value (numerals_by_value _ tells_digits) text digits long (λ zero. absurd (omega arith)) (omega arith) in
    record { is = sym is; some = above_zero text n is first; small = small }

-- `parse` reads the number of a text that begins with a digit that is not 0
pub parsed : {E : Type 0} (text : List ℕ) (read : Result ℕ E) → ParsesUnsigned 32 10 text read → IsInRange 49 57 (get_or text 0 0)
    → result_ok read ≡ positive_of text
parsed {E} text (Ok n) parses first =
    let plain = parse_plain (numerals_by_value _ tells_digits) {E = E} 32 text (Ok n) parses (λ plus. omega arith) in
    ap Some plain.1 ∙ sym (some_of text (digits_spell text plain.0.0 plain.0.1 plain.0.2 first.0))
parsed {E} text (Err error) parses first =
    let plain = parse_plain (numerals_by_value _ tells_digits) {E = E} 32 text (Err error) parses (λ plus. omega arith) in
    sym (none_of text (λ spells.
    let numeral = decimal_is_IsNumeral (digits_value 10 text) (omega (arith, spells.small)) in
    let is = sym spells.is in
    plain (subst (AllDigits 10) is numeral.0.1, subst (λ t. 0 < length t) is numeral.0.0, spells.small)))

-- ---- and 0 besides

-- the one digit 0
pub zero-spelled : (text : List ℕ) → text ≡ 48 ∷ [] → Some 0 ≡ spelled_number text
zero-spelled text is =
    let digit : decimal 0 ≡ 48 ∷ [] = decimal_digit 0 (omega arith) in
    let same : bytes_eq (48 ∷ []) (decimal 0) ≡ true = (bytes_eq-Decides (48 ∷ []) (decimal 0)).1 (sym digit) in
    sym (ap spelled_number is ∙ ap (λ b. cond (b && nat_lt 0 (2 ^ 32)) (Some 0) None) same)

above_or_zero : (n : ℕ) (text : List ℕ) → text ≡ decimal n → (text ≡ 48 ∷ [] → ⊥) → 0 < n
above_or_zero zero text is other = absurd (other (is ∙ decimal_digit 0 (omega arith)))
above_or_zero (suc n) text is other = omega arith

-- another text spells a number from 1 on, or none
pub positive-spelled : (text : List ℕ) → (text ≡ 48 ∷ [] → ⊥) → positive_of text ≡ spelled_number text
positive-spelled text other = by (bytes_eq text (decimal (digits_value 10 text))) refl
  where
    n : ℕ
    n = digits_value 10 text

    by : (b : Bool) → bytes_eq text (decimal n) ≡ b → positive_of text ≡ spelled_number text
    by true e =
        let some = above_or_zero n text ((bytes_eq-Decides text (decimal n)).0 e) other in
        ap (λ b. cond ((b && nat_le 1 n) && nat_lt n (2 ^ 32)) (Some n) None) e
        ∙ ap (λ b. cond (b && nat_lt n (2 ^ 32)) (Some n) None) (le-leb 1 n some)
        ∙ sym (ap (λ b. cond (b && nat_lt n (2 ^ 32)) (Some n) None) e)
    by false e =
        ap (λ b. cond ((b && nat_le 1 n) && nat_lt n (2 ^ 32)) (Some n) None) e
        ∙ sym (ap (λ b. cond (b && nat_lt n (2 ^ 32)) (Some n) None) e)

-- where it was found to be another one
pub not-zero : (text : List ℕ) (same : Bool) → same ≡ bytes_eq text (48 ∷ []) → same ≡ false → text ≡ 48 ∷ [] → ⊥
not-zero text same is other none = false_true (sym other ∙ is ∙ (bytes_eq-Decides text (48 ∷ [])).1 none)
  where
    false_true : false ≡ true → ⊥
    false_true clash = absurd cc
