-- The number in a part of bytes.
use Rattle.std.proofs.Common.{◌≡◌, ℕ, zero, suc, ◌+◌, ◌*◌, ◌^◌, ◌<◌, ◌≤◌, cond, List, [], ◌∷◌, ◌++◌, length, take, drop, get_or, refl, sym, ap, ◌∙◌, arith}
use Rattle.std.proofs.lemmas.Bool.{le-leb, lt-leb}
use Rattle.std.proofs.lemmas.List.{drop_more}
use Rattle.t3_holder.specs.NumberText.{little_endian, value_of, AreBytes}
use Rattle.t3_holder.proofs.Numbers.{value_of-little_endian}
use Rattle.t3_methods.specs.Inner.Window.{number_at}

-- where they are all there
pub number_at-there : (width : ℕ) (bytes : List ℕ) (at : ℕ) → at + width ≤ length bytes → number_at width bytes at ≡ value_of (take width (drop at bytes))
unfolding number_at
number_at-there width bytes at le = ap (λ b. cond b (value_of (take width (drop at bytes))) 0) (le-leb _ _ le)

-- where one is missing
pub number_at-missing : (width : ℕ) (bytes : List ℕ) (at : ℕ) → length bytes < at + width → 0 ≡ number_at width bytes at
unfolding number_at
number_at-missing width bytes at less = ap (λ b. cond b (value_of (take width (drop at bytes))) 0) (sym (lt-leb _ _ less))

-- a byte
pub number_at-one : (bytes : List ℕ) (at : ℕ) → at + 1 ≤ length bytes → get_or bytes at 0 ≡ number_at 1 bytes at
number_at-one bytes at le =
    let one : take 1 (drop at bytes) ≡ get_or bytes at 0 ∷ [] = rw (drop_more bytes at 0 (omega arith)) refl in
    let alone : get_or bytes at 0 ≡ get_or bytes at 0 + 256 * 0 = omega arith in
    alone ∙ ap value_of (sym one) ∙ sym (number_at-there 1 bytes at le)

-- a number whose bytes these are
pub number_at-is : (width n : ℕ) (bytes : List ℕ) (at : ℕ) → n < 256 ^ width → at + width ≤ length bytes → take width (drop at bytes) ≡ little_endian width n
    → n ≡ number_at width bytes at
number_at-is width n bytes at fits le is =
    sym (value_of-little_endian width n fits) ∙ ap value_of (sym is) ∙ sym (number_at-there width bytes at le)

-- bytes by their places
pub AreBytes-each : (bytes : List ℕ) → ((i : ℕ) → get_or bytes i 0 < 256) → AreBytes bytes
AreBytes-each [] each = tt
AreBytes-each (x ∷ bytes) each = (each 0, AreBytes-each bytes (λ i. each (suc i)))

pub AreBytes-append : (a b : List ℕ) → AreBytes a → AreBytes b → AreBytes (a ++ b)
AreBytes-append [] b are_a are_b = are_b
AreBytes-append (x ∷ a) b are_a are_b = (are_a.0, AreBytes-append a b are_a.1 are_b)

-- the first of bytes
pub AreBytes-take : (count : ℕ) (bytes : List ℕ) → AreBytes bytes → AreBytes (take count bytes)
AreBytes-take zero bytes are = tt
AreBytes-take (suc count) [] are = tt
AreBytes-take (suc count) (x ∷ bytes) are = (are.0, AreBytes-take count bytes are.1)

-- each place of bytes
pub each-AreBytes : (bytes : List ℕ) → AreBytes bytes → (i : ℕ) → get_or bytes i 0 < 256
each-AreBytes [] are i = omega arith
each-AreBytes (x ∷ bytes) are zero = are.0
each-AreBytes (x ∷ bytes) are (suc i) = each-AreBytes bytes are.1 i
