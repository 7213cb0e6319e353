-- Numbers of digits, and copies.
use Rattle.std.proofs.Common.{◌≡◌, ℕ, zero, suc, ◌+◌, ◌-◌, ◌*◌, ◌<◌, ◌≤◌, Bool, true, false, cond, nat_lt, get_or, drop, List, [], ◌∷◌, length, refl, sym, ap, ◌∙◌, length-append, Ok, Err, rules, arith}
use Rattle.std.specs.List.{repeat}
use Rattle.t3_store.specs.Value.{Text}
use Rattle.t3_ops.specs.declared.fault.Fault.TheVariants.{TextLong}
use Rattle.t3_ops.specs.Making.{new_object}
use Rattle.t3_ops.specs.Builtins.{is_digit, leading_number_of, copies_of}

-- digits make a number no less
pub digits-grow : (n : ℕ) (bytes : List ℕ) → n ≤ leading_number_of n bytes
digits-grow n [] = omega arith
digits-grow n (byte ∷ bytes) =
    let step : (digit : Bool) → n ≤ cond digit (leading_number_of (10 * n + (byte - 48)) bytes) n
    = λ digit. elim digit as (λ (d : Bool). n ≤ cond d (leading_number_of (10 * n + (byte - 48)) bytes) n) [
      | true ↦ let more = digits-grow (10 * n + (byte - 48)) bytes in omega arith
      | false ↦ omega arith
    ] in step (is_digit byte)

-- copies are as many times as long
pub length-repeat : (bytes : List ℕ) (count : ℕ) → length (repeat count bytes) ≡ length bytes * count
length-repeat bytes zero = omega arith
length-repeat bytes (suc count) =
    let long = length-append bytes (repeat count bytes) in
    let rest = length-repeat bytes count in
    omega arith

drop-get : (xs : List ℕ) (index : ℕ) → index < length xs → drop index xs ≡ get_or xs index 0 ∷ drop (index + 1) xs
drop-get [] index within = absurd (omega arith)
drop-get (x ∷ xs) zero within = refl
drop-get (x ∷ xs) (suc index) within =
    let next : suc index + 1 ≡ suc (index + 1) = omega arith in
    drop-get xs index (omega arith) ∙ ap (λ n. get_or xs index 0 ∷ drop n (x ∷ xs)) (sym next)

is_digit-true : (byte : ℕ) → 48 ≤ byte → byte ≤ 57 → is_digit byte ≡ true
is_digit-true byte low high = search rules

-- a number that is above a bound once a digit more was read is above it with all of them
pub digits-above : (bytes : List ℕ) (index value total : ℕ) → index < length bytes → 48 ≤ get_or bytes index 0 → get_or bytes index 0 ≤ 57
    → leading_number_of value (drop index bytes) ≡ total → 10 * value + (get_or bytes index 0 - 48) ≤ total
digits-above bytes index value total within low high is =
    let byte : ℕ = get_or bytes index 0 in
    let rest : List ℕ = drop (index + 1) bytes in
    let read : leading_number_of value (drop index bytes) ≡ leading_number_of (10 * value + (byte - 48)) rest =
    ap (λ (l : List ℕ). leading_number_of value l) (drop-get bytes index within)
    ∙ ap (λ digit. cond digit (leading_number_of (10 * value + (byte - 48)) rest) value) (is_digit-true byte low high) in
    let more = digits-grow (10 * value + (byte - 48)) rest in
    omega arith

lt-true : (m n : ℕ) → m < n → nat_lt m n ≡ true
lt-true m n lt = search rules

-- copies that are too many, by their length
pub copies-long : (bytes : List ℕ) (count : ℕ) → 65535 < length bytes * count → Err TextLong ≡ copies_of bytes count
copies-long bytes count long =
    let size = length-repeat bytes count in
    let past : nat_lt 65535 (length (repeat count bytes)) ≡ true = lt-true 65535 (length (repeat count bytes)) (omega arith) in
    sym (ap (λ b. new_object (cond b (Err TextLong) (Ok (Text (repeat count bytes))))) past)
