-- What is known of a constant string while it is read, and what of it when the reading ends.
use Rattle.std.proofs.Common.{◌≡◌, ℕ, ◌+◌, ◌-◌, ◌^◌, ◌<◌, ◌≤◌, Bool, true, false, cond, List, [], ◌++◌, take, drop, length, min, Option, Some, None, refl, sym, ap, subst, ◌∙◌, length-append, take-append-drop, arith}
use Rattle.std.specs.Option.{option_and_then}
use Rattle.std.specs.Str.{IsUtf8, is_utf8}
use Rattle.std.proofs.lemmas.List.{take-append-le, length-take-le}
use Rattle.std.proofs.lemmas.Option.{none-some, cond_some, option_and_then_some}
use Rattle.std.proofs.lemmas.Str.{IsUtf8-append, IsUtf8-nil, IsUtf8-from_is_utf8, is_utf8-from_IsUtf8}
use Rattle.t3_holder.specs.NumberText.{little_endian}
use Rattle.t3_holder.proofs.Numbers.{length-little_endian}
use Rattle.t3_pools.specs.Pool.{Pool, HasBytes}
use Rattle.t3_pools.specs.Constants.{HasText, bytes_in, number_in, text_in, as_utf8, extent_of, IsOfBytes}
use Rattle.t3_pools.specs.Inner.Reading.{IsNumber, HasCharacters, BeginsText, IsLongestUtf8, TextAnswer}
use Rattle.t3_pools.proofs.Standing.{stands_both, stands_left, stands_right, stands_take, same_bytes, bytes_in-stands, stands-bytes_in, length-bytes_in, number_in-stands, stands-number_in}
use Rattle.t3_pools.proofs.Utf8.{utf8-rest, utf8-first}

-- so many of the bytes have been found to be a text, and so many are left
pub record Begun (pool : Pool) (first count address left : ℕ) : Type 0 where
  pub front : List ℕ
  pub long : length front + left ≡ count
  pub at : address ≡ first + length front
  pub below : address < 2 ^ 31
  pub stands : HasBytes pool first front
  pub utf8 : IsUtf8 front

pub begun-none : (pool : Pool) (first count : ℕ) → first < 2 ^ 31 → Begun pool first count first count
begun-none pool first count below = record {
  front = [];
  long = omega arith;
  at = omega arith;
  below = below;
  stands = tt;
  utf8 = IsUtf8-nil;
}

pub begun-more : (pool : Pool) (first count address left found : ℕ) → Begun pool first count address left → found ≤ left
    → HasCharacters found pool address → address + found < 2 ^ 31
    → Begun pool first count (address + found) (left - found)
begun-more pool first count address left found begun within more below =
    let long = length-append begun.front more.0 in
    let same = begun.long in
    let at = begun.at in
    let size = more.1.0 in
    record {
      front = begun.front ++ more.0;
      long = omega arith;
      at = omega arith;
      below = below;
      stands = stands_both pool begun.front more.0 first begun.stands
          (subst (λ (n : ℕ). HasBytes pool n more.0) at more.1.1.0);
      utf8 = IsUtf8-append begun.front more.0 begun.utf8 more.1.1.1;
    }

pub begun-all : (pool : Pool) (first count address left : ℕ) → Begun pool first count address left → left ≡ 0
    → HasCharacters count pool first
begun-all pool first count address left begun none =
    let long = begun.long in
    (begun.front, (omega arith, (begun.stands, begun.utf8)))

pub begun-stops : (pool : Pool) (first count address left : ℕ) → Begun pool first count address left
    → ¬ HasCharacters left pool address → ¬ HasCharacters count pool first
begun-stops pool first count address left begun none text =
    let n : ℕ = length begun.front in
    let long = begun.long in
    let size = text.1.0 in
    let cut = length-take-le n text.0 (omega arith) in
    let front : take n text.0 ≡ begun.front =
    same_bytes pool (take n text.0) begun.front first (stands_take pool text.0 first n text.1.1.0) begun.stands (omega arith) in
    let whole : text.0 ≡ begun.front ++ drop n text.0 =
    sym (take-append-drop n text.0) ∙ ap (λ (b : List ℕ). b ++ drop n text.0) front in
    let counted = ap (λ (b : List ℕ). length b) whole in
    let both = length-append begun.front (drop n text.0) in
    let stands = stands_right pool begun.front (drop n text.0) first (subst (λ (b : List ℕ). HasBytes pool first b) whole text.1.1.0) in
    let utf8 = utf8-rest begun.front (drop n text.0) begun.utf8 (subst (λ (b : List ℕ). IsUtf8 b) whole text.1.1.1) in
    none (drop n text.0, (omega arith, (subst (λ (a : ℕ). HasBytes pool a (drop n text.0)) (sym begun.at) stands, utf8)))

-- whole characters that bytes begin with stand where those do
pub characters-stand : (pool : Pool) (address found : ℕ) (bytes : List ℕ) → HasBytes pool address bytes → IsLongestUtf8 bytes found
    → HasCharacters found pool address
characters-stand pool address found bytes has longest =
    (take found bytes, (length-take-le found bytes longest.within, (stands_take pool bytes address found has, longest.whole)))

-- a window that is as long as a character may be, or as long as the text, begins with a character of the text
pub window-none : (pool : Pool) (address left found : ℕ) (window : List ℕ) → HasBytes pool address window
    → length window ≡ min left 4 → IsLongestUtf8 window found → found ≡ 0 → 0 < left → ¬ HasCharacters left pool address
window-none pool address left found window has long longest none some text =
    let size = text.1.0 in
    let first = utf8-first text.0 text.1.1.1 (omega arith) in
    let n : ℕ = length window in
    let fits : n ≤ length text.0 = omega arith in
    let cut = length-take-le n text.0 fits in
    let same : take n text.0 ≡ window =
    same_bytes pool (take n text.0) window address (stands_take pool text.0 address n text.1.1.0) has (omega arith) in
    let small = first.1.small in
    let within = first.1.within in
    let inside : first.0 ≤ length (take n text.0) = omega arith in
    let shorter : take first.0 text.0 ≡ take first.0 window =
    ap (λ (b : List ℕ). take first.0 b) (sym (take-append-drop n text.0))
    ∙ take-append-le first.0 (take n text.0) (drop n text.0) inside
    ∙ ap (λ (b : List ℕ). take first.0 b) same in
    let positive = first.1.some in
    longest.longest first.0 (omega arith) (omega arith) (subst (λ (b : List ℕ). IsUtf8 b) shorter first.1.whole)

-- where a window can't be filled, no text stands that is as long
pub gap-none : (pool : Pool) (address left size : ℕ) → size ≤ left → bytes_in size pool address ≡ None → ¬ HasCharacters left pool address
gap-none pool address left size within gap text =
    let long = text.1.0 in
    let cut = length-take-le size text.0 (omega arith) in
    let read = bytes_in-stands pool (take size text.0) address (stands_take pool text.0 address size text.1.1.0) in
    none-some (take size text.0) (sym gap ∙ ap (λ n. bytes_in n pool address) (sym cut) ∙ read)

-- what a window says of the text
pub window-begins : (pool : Pool) (address left found : ℕ) (window : List ℕ) → HasBytes pool address window
    → IsLongestUtf8 window found → 0 < left → length window ≡ min left 4 → BeginsText left pool address found
window-begins pool address left found window has longest some long =
    let within = longest.within in
    record {
      within = omega arith;
      whole = characters-stand pool address found window has longest;
      none = λ none. window-none pool address left found window has long longest none some;
    }

pub no_characters : (pool : Pool) (address : ℕ) → HasCharacters 0 pool address
no_characters pool address = ([], (refl, (tt, IsUtf8-nil)))

has_text : (pool : Pool) (address count : ℕ) (text : List ℕ) → length text ≡ count → HasBytes pool (address + 2) text → IsUtf8 text
    → count < 256 ^ 2 → HasBytes pool address (little_endian 2 count) → HasText pool address text
has_text pool address count text size found utf8 fits stands =
    let wide = length-little_endian 2 (length text) in
    let spelled : little_endian 2 count ≡ little_endian 2 (length text) = ap (λ n. little_endian 2 n) (sym size) in
    let at : address + 2 ≡ address + length (little_endian 2 (length text)) = omega arith in
    record {
      fits = omega arith;
      utf8 = utf8;
      stands = stands_both pool (little_endian 2 (length text)) text address
          (subst (λ (b : List ℕ). HasBytes pool address b) spelled stands)
          (subst (λ (a : ℕ). HasBytes pool a text) at found);
    }

-- a constant string that stands is the one that is read
pub text_in-stands : (pool : Pool) (address : ℕ) (text : List ℕ) → HasText pool address text → text_in pool address ≡ Some text
unfolding text_in
text_in-stands pool address text has =
    let wide = length-little_endian 2 (length text) in
    let at : address + length (little_endian 2 (length text)) ≡ address + 2 = omega arith in
    let count = number_in-stands pool 2 (length text) address has.fits
    (stands_left pool (little_endian 2 (length text)) text address has.stands) in
    let bytes = bytes_in-stands pool text (address + 2)
    (subst (λ (a : ℕ). HasBytes pool a text) at (stands_right pool (little_endian 2 (length text)) text address has.stands)) in
    ap (λ o. option_and_then (λ count. option_and_then as_utf8 (bytes_in count pool (address + 2))) o) count
    ∙ ap (λ o. option_and_then as_utf8 o) bytes
    ∙ ap (λ b. cond b (Some text) None) (is_utf8-from_IsUtf8 text has.utf8)

text_in-gap : (pool : Pool) (address : ℕ) → number_in 2 pool address ≡ None → text_in pool address ≡ None
unfolding text_in
text_in-gap pool address none =
    ap (λ o. option_and_then (λ count. option_and_then as_utf8 (bytes_in count pool (address + 2))) o) none

text_in-unfit : (pool : Pool) (address count : ℕ) → count < 256 ^ 2 → HasBytes pool address (little_endian 2 count)
    → ¬ HasCharacters count pool (address + 2) → text_in pool address ≡ None
unfolding text_in
text_in-unfit pool address count fits stands none =
    let other : (bytes : List ℕ) → bytes_in count pool (address + 2) ≡ Some bytes → (b : Bool) → is_utf8 bytes ≡ b
    → cond b (Some bytes) None ≡ None
    = λ bytes read b. elim b as (λ (b : Bool). is_utf8 bytes ≡ b → cond b (Some bytes) None ≡ None) [
      | true ↦ λ is. absurd (none (
        bytes,
        (
          length-bytes_in pool count (address + 2) bytes read,
          (stands-bytes_in pool count (address + 2) bytes read, IsUtf8-from_is_utf8 bytes is),
        ),
      ))
      | false ↦ λ is. refl
    ] in
    let step : (o : Option (List ℕ)) → bytes_in count pool (address + 2) ≡ o → option_and_then as_utf8 o ≡ None
    = λ o. elim o as (λ (o : Option (List ℕ)). bytes_in count pool (address + 2) ≡ o → option_and_then as_utf8 o ≡ None) [
      | None ↦ λ gap. refl
      | Some bytes ↦ λ read. other bytes read (is_utf8 bytes) refl
    ] in
    ap (λ o. option_and_then (λ count. option_and_then as_utf8 (bytes_in count pool (address + 2))) o)
    (number_in-stands pool 2 count address fits stands)
    ∙ step (bytes_in count pool (address + 2)) refl

-- ---- what is answered of a text

none_answer : (pool : Pool) (address : ℕ) → text_in pool address ≡ None → TextAnswer pool address None
none_answer pool address none = record {
  text = λ text has. none-some text (sym none ∙ text_in-stands pool address text has);
  read = sym (ap (λ o. extent_of address o) none);
}

pub text-gap : (pool : Pool) (address : ℕ) → number_in 2 pool address ≡ None → TextAnswer pool address None
text-gap pool address none = none_answer pool address (text_in-gap pool address none)

pub text-unfit : (pool : Pool) (address count : ℕ) → IsNumber 2 pool address count → ¬ HasCharacters count pool (address + 2)
    → TextAnswer pool address None
text-unfit pool address count number none = none_answer pool address (text_in-unfit pool address count number.fits number.stands none)

pub text-found : (pool : Pool) (address count : ℕ) → IsNumber 2 pool address count → HasCharacters count pool (address + 2)
    → TextAnswer pool address (Some (address + 2, count))
text-found pool address count number found =
    let has = has_text pool address count found.0 found.1.0 found.1.1.0 found.1.1.1 number.fits number.stands in
    record {
      text = (found.0, (has, (refl, sym found.1.0)));
      read = ap (λ n. Some (address + 2, n)) (sym found.1.0)
          ∙ sym (ap (λ o. extent_of address o) (text_in-stands pool address found.0 has));
    }

-- ---- what is read stands

pub stands-text_in : (pool : Pool) (address : ℕ) (text : List ℕ) → IsOfBytes pool → text_in pool address ≡ Some text
    → HasText pool address text
unfolding text_in
stands-text_in pool address text of_bytes is =
    option_and_then_some (λ count. option_and_then as_utf8 (bytes_in count pool (address + 2))) (number_in 2 pool address) text is
    (λ count counted rest.
    option_and_then_some as_utf8 (bytes_in count pool (address + 2)) text rest
    (λ bytes read valid.
    let utf8 = cond_some (is_utf8 bytes) bytes text valid in
    let number = stands-number_in pool 2 address count of_bytes counted in
    subst (λ (t : List ℕ). HasText pool address t) utf8.1
    (has_text pool address count bytes (length-bytes_in pool count (address + 2) bytes read)
    (stands-bytes_in pool count (address + 2) bytes read) (IsUtf8-from_is_utf8 bytes utf8.0) number.fits number.stands)))
