-- What a window shows of code: the numbers in it stand there, and behind its bytes none does.
use Rattle.std.proofs.Common.{◌≡◌, ℕ, zero, suc, ◌+◌, ◌-◌, ◌^◌, ◌<◌, ◌≤◌, List, [], ◌∷◌, ◌++◌, length, take, drop, Some, None, sym, ap, ◌∙◌, subst, arith}
use Rattle.std.proofs.lemmas.List.{take-append-drop, length-take-le, length-drop, drop-take, take-take}
use Rattle.std.specs.FinMap.{get}
use Rattle.t3_holder.specs.NumberText.{little_endian, value_of, AreBytes}
use Rattle.t3_holder.proofs.Numbers.{little_endian-value_of, value_fits}
use Rattle.t3_blocks.proofs.Lists.{AreBytes-take, AreBytes-drop}
use Rattle.t3_pools.specs.Pool.{Pool, HasBytes}
use Rattle.t3_pools.specs.Constants.{bytes_in}
use Rattle.t3_pools.proofs.Standing.{stands_right, stands_take, bytes_in-stands, bytes_in-gap}
use Rattle.t3_methods.specs.MethodHeader.{number_from}
use Rattle.t3_methods.specs.Inner.Window.{Shows, ShowsAll, IsWhole, number_at}
use Rattle.t3_methods.proofs.Windows.{number_at-there}

-- a byte of them that isn't there
pub not_there : (code : Pool) (at k : ℕ) (bytes : List ℕ) → k < length bytes → get code (at + k) ≡ None → HasBytes code at bytes → ⊥
not_there code at k [] less none has = absurd (omega arith)
not_there code at zero (x ∷ xs) less none has =
    let there : at + 0 ≡ at = omega arith in
    let clash : None ≡ Some x = sym none ∙ ap (get code) there ∙ has.0 in
    absurd cc
not_there code at (suc k) (x ∷ xs) less none has =
    let there : (at + 1) + k ≡ at + suc k = omega arith in
    not_there code (at + 1) k xs (omega arith) (ap (get code) there ∙ none) has.1

-- a part of bytes that stand
pub part : (code : Pool) (address place width : ℕ) (bytes : List ℕ) → Shows code address bytes → place + width ≤ length bytes
    → HasBytes code (address + place) (take width (drop place bytes))
part code address place width bytes shows le =
    let split : HasBytes code address (take place bytes ++ drop place bytes) =
    subst (λ (b : List ℕ). HasBytes code address b) (sym (take-append-drop place bytes)) shows.stands in
    let long : length (take place bytes) ≡ place = length-take-le place bytes (omega arith) in
    let behind : HasBytes code (address + place) (drop place bytes) =
    subst (λ (n : ℕ). HasBytes code (address + n) (drop place bytes)) long
    (stands_right code (take place bytes) (drop place bytes) address split) in
    stands_take code (drop place bytes) (address + place) width behind

-- the number in it
pub number_text : (code : Pool) (address place width : ℕ) (bytes : List ℕ) → Shows code address bytes → place + width ≤ length bytes
    → little_endian width (number_at width bytes place) ≡ take width (drop place bytes)
number_text code address place width bytes shows le =
    let some : List ℕ = take width (drop place bytes) in
    let are : AreBytes some = AreBytes-take width (drop place bytes) (AreBytes-drop place bytes shows.are) in
    let long : length some ≡ width = length-take-le width (drop place bytes) (omega (arith, length-drop place bytes)) in
    ap (little_endian width) (number_at-there width bytes place le)
    ∙ ap (λ n. little_endian n (value_of some)) (sym long) ∙ little_endian-value_of some are

pub number_less : (code : Pool) (address place width : ℕ) (bytes : List ℕ) → Shows code address bytes → place + width ≤ length bytes
    → number_at width bytes place < 256 ^ width
number_less code address place width bytes shows le =
    let some : List ℕ = take width (drop place bytes) in
    let are : AreBytes some = AreBytes-take width (drop place bytes) (AreBytes-drop place bytes shows.are) in
    let long : length some ≡ width = length-take-le width (drop place bytes) (omega (arith, length-drop place bytes)) in
    subst (λ (n : ℕ). n < 256 ^ width) (sym (number_at-there width bytes place le)) (value_fits width some are long)

pub number_stands : (code : Pool) (address place width : ℕ) (bytes : List ℕ) → Shows code address bytes → place + width ≤ length bytes
    → HasBytes code (address + place) (little_endian width (number_at width bytes place))
number_stands code address place width bytes shows le =
    subst (λ (b : List ℕ). HasBytes code (address + place) b) (sym (number_text code address place width bytes shows le))
    (part code address place width bytes shows le)

-- so many bytes that aren't all there
pub short : (code : Pool) (address place width : ℕ) (bytes text : List ℕ) → IsWhole code address bytes → place + width ≤ 10
    → place ≤ length bytes
    → length bytes < place + width → length text ≡ width → ¬ HasBytes code (address + place) text
short code address place width bytes text whole room behind less long has =
    let k : ℕ = length bytes - place in
    let there : (address + place) + k ≡ address + length bytes = omega arith in
    not_there code (address + place) k text (omega arith) (ap (get code) there ∙ whole (omega arith)) has

-- ---- ten bytes, as a header or an entry of an exception table has them

-- where a window has ten they are the pool's
pub ten_shown : (code : Pool) (at : ℕ) (bytes : List ℕ) → Shows code at bytes → 10 ≤ length bytes
    → bytes_in 10 code at ≡ Some (take 10 bytes)
ten_shown code at bytes shows le =
    let long : 10 ≡ length (take 10 bytes) = sym (length-take-le 10 bytes le) in
    ap (λ n. bytes_in n code at) long ∙ bytes_in-stands code (take 10 bytes) at (stands_take code bytes at 10 shows.stands)

-- where a window has fewer the pool hasn't ten
pub ten_short : (code : Pool) (at : ℕ) (bytes : List ℕ) → ShowsAll code at bytes → length bytes < 10 → bytes_in 10 code at ≡ None
ten_short code at bytes shows less = bytes_in-gap code 10 at (length bytes) less (shows.whole less)

-- the number in a part of them is the window's
pub number_from-ten : (bytes : List ℕ) (offset width n : ℕ) → offset + width ≤ 10 → 10 ≤ length bytes → n ≡ number_at width bytes offset
    → n ≡ number_from (take 10 bytes) offset width
number_from-ten bytes offset width n within le is =
    let ten : offset + (10 - offset) ≡ 10 = omega (arith, within) in
    let rest : drop offset (take 10 bytes) ≡ take (10 - offset) (drop offset bytes) =
    ap (λ m. drop offset (take m bytes)) (sym ten) ∙ drop-take offset (10 - offset) bytes in
    let part : take width (drop offset (take 10 bytes)) ≡ take width (drop offset bytes) =
    ap (take width) rest ∙ take-take width (10 - offset) (drop offset bytes) (omega (arith, within)) in
    is ∙ number_at-there width bytes offset (omega (arith, within, le)) ∙ ap value_of (sym part)
