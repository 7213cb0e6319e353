-- The cases of a switch: which stands at an address, and what is known of them while they are gone over.
use Rattle.std.proofs.Common.{◌≡◌, ℕ, zero, suc, ℤ, pos, negsuc, ◌+◌, ◌*◌, ◌^◌, ◌<◌, ◌≤◌, List, length, take, Option, Some, None, IfSome, is_some, Bool, IsTrue, inl, inr, sym, ap, ◌∙◌, subst, rules, arith, w16}
use mir.Val.{to_z, of_z}
use Rattle.std.proofs.lemmas.Bool.{cases_lt}
use Rattle.std.specs.Int.{cast_signed}
use Rattle.std.specs.Option.{option_map}
use Rattle.std.proofs.lemmas.Int.{of_z-to_z, to_z-of_z, ints}
use Rattle.std.proofs.lemmas.Option.{same_Some}
use Rattle.std.specs.Int.RustNames.{FitsSigned}
use Rattle.std.specs.FinMap.{get}
use Rattle.t3_holder.specs.NumberText.{little_endian, twos_complement}
use Rattle.t3_holder.specs.HolderText.{raw_text, IsRaw, Means}
use Rattle.t3_holder.specs.declared.holder.Raw.{Raw}
use Rattle.t3_holder.specs.declared.holder.Holder.{Holder}
use Rattle.t3_holder.proofs.Numbers.{length-little_endian}
use Rattle.t3_holder.proofs.Holders.{one_raw}
use Rattle.t3_pools.specs.Pool.{Pool, HasBytes}
use Rattle.t3_pools.specs.Constants.{HasHolder, number_in}
use Rattle.t3_pools.proofs.Standing.{same_bytes, number_in-stands}
use Rattle.t3_pools.proofs.Lists.{holder_in-stands}
use Rattle.t3_methods.specs.Operands.{HasJump, HasCase, HasCases}
use Rattle.t3_methods.specs.Answers.{FindsCase}
use Rattle.t3_methods.specs.Inner.Window.{Shows, ShowsAll, number_at}
use Rattle.t3_methods.specs.Inner.Cases.{DecidesSwitch, FindsJump}
use Rattle.t3_methods.proofs.Shown.{part, number_less, number_stands, short}

-- ---- a distance

pub signed_by : (n : ℕ) → n < 2 ^ 16 → FitsSigned w16 (to_z w16 n)
signed_by n fits = search (rules, ints)

-- a signed number that was read, as it is handed on
resigned : (n : ℕ) (z : ℤ) → n < 2 ^ 16 → z ≡ to_z w16 n → to_z w16 (of_z w16 z) ≡ to_z w16 n
resigned n z less is = ap (λ y. to_z w16 (of_z w16 y)) is ∙ ap (to_z w16) (of_z-to_z w16 n less)

-- the distance in two bytes of a window
pub jump_shown : (code : Pool) (address place : ℕ) (bytes : List ℕ) (z : ℤ) → Shows code address bytes → place + 2 ≤ length bytes
    → z ≡ to_z w16 (number_at 2 bytes place) → HasJump code (address + place) (to_z w16 (of_z w16 z))
jump_shown code address place bytes z shows le is =
    let n : ℕ = number_at 2 bytes place in
    let less : n < 2 ^ 16 = omega (arith, number_less code address place 2 bytes shows le) in
    let same = resigned n z less is in
    let number : twos_complement 2 (to_z w16 n) ≡ n = of_z-to_z w16 n less in
    subst (λ (y : ℤ). HasJump code (address + place) y) (sym same) (record {
      fits = signed_by n less;
      stands = subst (λ (m : ℕ). HasBytes code (address + place) (little_endian 2 m)) (sym number) (number_stands code address place 2 bytes shows le);
    })

pub no_jump : (code : Pool) (address place : ℕ) (bytes : List ℕ) (z : ℤ) → ShowsAll code address bytes → place + 2 ≤ 10 → place ≤ length bytes → length bytes < place + 2
    → ¬ HasJump code (address + place) z
no_jump code address place bytes z shows room behind less has =
    short code address place 2 bytes _ shows.whole room behind less (length-little_endian 2 _) has.stands

-- ---- a holder

pub length-raw_text : (raw : Raw) → length (raw_text raw) ≡ 5
unfolding raw_text
length-raw_text raw = ap suc (length-little_endian 4 raw.bits)

pub one_raw_there : (code : Pool) (at : ℕ) (a b : Raw) → IsRaw a → IsRaw b → HasBytes code at (raw_text a) → HasBytes code at (raw_text b) → a ≡ b
one_raw_there code at a b fits_a fits_b has_a has_b =
    one_raw a b fits_a fits_b (same_bytes code _ _ at has_a has_b (length-raw_text a ∙ sym (length-raw_text b)))

-- ---- a case

-- the case in seven bytes of a window
pub case_shown : (code : Pool) (at : ℕ) (bytes : List ℕ) (raw : Raw) (holder : Holder) (z : ℤ) → Shows code at bytes → 7 ≤ length bytes
    → raw_text raw ≡ take 5 bytes → IsRaw raw → Means raw holder → z ≡ to_z w16 (number_at 2 bytes 5)
    → HasCase code at holder (to_z w16 (of_z w16 z))
case_shown code at bytes raw holder z shows le text fits means is =
    let here : at + 0 ≡ at = omega arith in
    let five : HasBytes code at (take 5 bytes) =
    subst (λ (n : ℕ). HasBytes code n (take 5 bytes)) here (part code at 0 5 bytes shows (omega arith)) in
    record {
      has_holder = record { raw = raw; fits = fits; means = means; stands = subst (λ (b : List ℕ). HasBytes code at b) (sym text) five };
      has_jump = jump_shown code at 5 bytes z shows (omega arith) is;
    }

pub case_short : (code : Pool) (at : ℕ) (bytes : List ℕ) → ShowsAll code at bytes → length bytes < 7 → (holder : Holder) (jump : ℤ) → ¬ HasCase code at holder jump
case_short code at bytes shows less holder jump has =
    let here : at + 0 ≡ at = omega arith in
    let raw = has.has_holder.raw in
    let first = subst (λ (n : ℕ). HasBytes code n (raw_text raw)) (sym here) has.has_holder.stands in
    elim (cases_lt (length bytes) 5) [
      | inl few ↦ short code at 0 5 bytes (raw_text raw) shows.whole (omega arith) (omega arith) (omega arith) (length-raw_text raw) first
      | inr some ↦ no_jump code at 5 bytes jump shows (omega arith) (omega arith) (omega arith) has.has_jump
    ]

-- five bytes that mean no holder
pub case_unmeant : (code : Pool) (at : ℕ) (bytes : List ℕ) (raw : Raw) (told : Option Holder) → Shows code at bytes → 7 ≤ length bytes
    → raw_text raw ≡ take 5 bytes → IsRaw raw → told ≡ None → ((holder : Holder) → Means raw holder → told ≡ Some holder)
    → (holder : Holder) (jump : ℤ) → ¬ HasCase code at holder jump
case_unmeant code at bytes raw told shows le text fits none meant holder jump has =
    let here : at + 0 ≡ at = omega arith in
    let five : HasBytes code at (take 5 bytes) =
    subst (λ (n : ℕ). HasBytes code n (take 5 bytes)) here (part code at 0 5 bytes shows (omega arith)) in
    let stands : HasBytes code at (raw_text raw) = subst (λ (b : List ℕ). HasBytes code at b) (sym text) five in
    let same = one_raw_there code at has.has_holder.raw raw has.has_holder.fits fits has.has_holder.stands stands in
    let means : Means raw holder = subst (λ (r : Raw). Means r holder) same has.has_holder.means in
    let clash : None ≡ Some holder = sym none ∙ meant holder means in
    absurd cc

-- ---- cases

abbrev pub SomeCase : Pool → ℕ → Type 0
SomeCase code at = (holder : Holder) × ((jump : ℤ) × HasCase code at holder jump)

at_case : (code : Pool) (a b : ℕ) → a ≡ b → SomeCase code a → SomeCase code b
at_case code a b same = subst (λ (n : ℕ). SomeCase code n) same

-- one more behind them
pub cases-more : (code : Pool) (at count : ℕ) → HasCases code at count → SomeCase code (at + 7 * count) → HasCases code at (suc count)
cases-more code at zero have one = (at_case code (at + 7 * 0) at (omega arith) one, tt)
cases-more code at (suc count) have one =
    (have.0, cases-more code (at + 7) count have.1 (at_case code (at + 7 * suc count) ((at + 7) + 7 * count) (omega arith) one))

-- each of them
pub cases-each : (code : Pool) (at count nth : ℕ) → nth < count → HasCases code at count → SomeCase code (at + 7 * nth)
cases-each code at zero nth less have = absurd (omega arith)
cases-each code at (suc count) zero less have = at_case code at (at + 7 * 0) (omega arith) have.0
cases-each code at (suc count) (suc nth) less have =
    at_case code ((at + 7) + 7 * nth) (at + 7 * suc nth) (omega arith) (cases-each code (at + 7) count nth (omega arith) have.1)

abbrev Switched : Pool → ℕ → ℕ → Bool → Type 0
Switched code at count answer = record {
  decides : DecidesSwitch code at count answer;
  bounded : IsTrue answer → at + (7 * count + 2) < 2 ^ 31;
}

-- what the reading of the last distance tells of a switch whose cases stand
pub switch_told : (code : Pool) (at count next : ℕ) (found : Option ℤ) (answer : Bool) → HasCases code at count → next ≡ at + 7 * count
    → answer ≡ is_some found → FindsJump code next found → IfSome found (λ _. next + 2 < 2 ^ 31)
    → Switched code at count answer
switch_told code at count next None answer cases is told finds below = subst (λ (b : Bool). Switched code at count b) (sym told) (record {
  decides = λ has. finds has.last.0 (subst (λ (n : ℕ). HasJump code n has.last.0) (sym is) has.last.1);
  bounded = λ t. absurd cc;
})
switch_told code at count next (Some jump) answer cases is told finds below = subst (λ (b : Bool). Switched code at count b) (sym told) (record {
  decides = record { cases = cases; last = (jump, subst (λ (n : ℕ). HasJump code n jump) is finds) };
  bounded = λ t. omega (arith, below, is);
})

-- a case beyond the last address
pub case_beyond : (code : Pool) (far : ℕ) (holder : Holder) (jump : ℤ) → get code far ≡ None → ¬ HasCase code far holder jump
unfolding raw_text
case_beyond code far holder jump none has =
    let clash : None ≡ Some has.has_holder.raw.tag = sym none ∙ has.has_holder.stands.0 in
    absurd cc

-- no case where a reading at the address, or at the last address of 32 bits, found none
pub case_none : (code : Pool) (there place : ℕ) → ((holder : Holder) (jump : ℤ) → ¬ HasCase code place holder jump)
    → ((far : ℕ) → 2 ^ 31 ≤ far → get code far ≡ None) → (there < 2 ^ 32 → place ≡ there)
    → (holder : Holder) (jump : ℤ) → ¬ HasCase code there holder jump
case_none code there place none beyond same holder jump has =
    elim (cases_lt there (2 ^ 32)) [
      | inl near ↦ none holder jump (subst (λ (n : ℕ). HasCase code n holder jump) (sym (same near)) has)
      | inr far ↦ case_beyond code there holder jump (beyond there (omega arith)) has
    ]

-- ---- one case at an address

one_holder : (code : Pool) (at : ℕ) (a b : Holder) → HasHolder code at a → HasHolder code at b → a ≡ b
one_holder code at a b has_a has_b = same_Some a b (sym (holder_in-stands code at a has_a) ∙ holder_in-stands code at b has_b)

bits_fit : (z : ℤ) → FitsSigned w16 z → twos_complement 2 z < 256 ^ 2
bits_fit (pos n) fits = omega (arith, fits)
bits_fit (negsuc n) fits = omega (arith, fits)

-- the distance that stands is the one that is read
pub jump_stands : (code : Pool) (at : ℕ) (z : ℤ) → HasJump code at z → option_map (cast_signed w16) (number_in 2 code at) ≡ Some z
jump_stands code at z has =
    ap (option_map (cast_signed w16)) (number_in-stands code 2 (twos_complement 2 z) at (bits_fit z has.fits) has.stands)
    ∙ ap Some (to_z-of_z w16 z has.fits)

one_jump : (code : Pool) (at : ℕ) (y z : ℤ) → HasJump code at y → HasJump code at z → y ≡ z
one_jump code at y z has_y has_z = same_Some y z (sym (jump_stands code at y has_y) ∙ jump_stands code at z has_z)

-- what finds a case finds the one that stands there
pub finds_only : (code : Pool) (at nth : ℕ) (found : Option (Holder × ℕ × ℤ)) → FindsCase code at nth found → (holder : Holder) (jump : ℤ)
    → HasCase code (at + 7 * nth) holder jump → found ≡ Some (holder, at + 7 * nth + 5, jump)
finds_only code at nth None finds holder jump has = absurd (finds holder jump has)
finds_only code at nth (Some found) finds holder jump has =
    let same_holder : found.0 ≡ holder = one_holder code (at + 7 * nth) found.0 holder finds.0.has_holder has.has_holder in
    let same_jump : found.2 ≡ jump = one_jump code (at + 7 * nth + 5) found.2 jump finds.0.has_jump has.has_jump in
    λ i. Some (same_holder i, finds.1 i, same_jump i)
