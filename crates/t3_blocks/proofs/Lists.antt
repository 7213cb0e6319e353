-- Lists that are cut into parts, and texts that are told apart. Other crates may use what stands here.
use Rattle.std.proofs.Common.{◌≡◌, ◌≢◌, ℕ, zero, suc, ◌+◌, ◌^◌, ◌<◌, ◌≤◌, List, [], ◌∷◌, ◌++◌, length, take, drop, refl, sym, ap, ◌∙◌, ◌⊎◌, inl, inr, append_assoc, arith}
use Rattle.std.proofs.lemmas.Bool.{cases_eq}
use Rattle.std.proofs.lemmas.List.{take-append-drop, drop-drop, length-take, length-drop}
use Rattle.std.specs.List.{flat_map, AllByRecursion}
use Rattle.std.specs.Int.Bits.{bit_xor, xor_assoc, xor_self, xor_zero_r}
use Rattle.t3_holder.specs.NumberText.{little_endian, value_of, AreBytes}
use Rattle.t3_holder.proofs.Numbers.{same_number, length-little_endian, little_endian-value_of, value_fits}
use Rattle.t3_blocks.specs.Spelling.{masked_bytes, name_text}

-- two ways to cut a list after as many elements are one
pub split_same : {X : Type 0} (a b x y : List X) → length a ≡ length b → a ++ x ≡ b ++ y → (a ≡ b) × (x ≡ y)
split_same [] [] x y len e = (refl, e)
split_same [] (c ∷ b) x y len e = absurd (omega arith)
split_same (d ∷ a) [] x y len e = absurd (omega arith)
split_same (d ∷ a) (c ∷ b) x y len e =
    let rest : (a ≡ b) × (x ≡ y) = split_same a b x y (omega arith) cc in
    (cc, rest.1)

-- what is left after some elements is the next few and the rest
pub next_part : {X : Type 0} (at n : ℕ) (xs : List X) → take n (drop at xs) ++ drop (at + n) xs ≡ drop at xs
next_part at n xs = ap (λ r. take n (drop at xs) ++ r) (sym (drop-drop n at xs)) ∙ take-append-drop n (drop at xs)

-- two lists of numbers are one or not
pub same_or_not : (a b : List ℕ) → (a ≡ b) ⊎ (a ≢ b)
same_or_not [] [] = inl refl
same_or_not [] (y ∷ b) = inr (λ e. absurd cc)
same_or_not (x ∷ a) [] = inr (λ e. absurd cc)
same_or_not (x ∷ a) (y ∷ b) =
    elim (cases_eq x y) [
      | inl same ↦ elim (same_or_not a b) [
        | inl rest ↦ inl cc
        | inr differs ↦ inr (λ e. differs cc)
      ]
      | inr differs ↦ inr (λ e. differs cc)
    ]

-- what holds of each element holds with one more
pub AllByRecursion-push : {X : Type 0} (P : X → Type 0) (xs : List X) (y : X) → AllByRecursion P xs → P y → AllByRecursion P (xs ++ y ∷ [])
AllByRecursion-push P [] y all here = (here, tt)
AllByRecursion-push P (x ∷ xs) y all here = (all.0, AllByRecursion-push P xs y all.1 here)

-- ---- bytes

pub AreBytes-take : (n : ℕ) (bytes : List ℕ) → AreBytes bytes → AreBytes (take n bytes)
AreBytes-take zero bytes all = tt
AreBytes-take (suc n) [] all = tt
AreBytes-take (suc n) (b ∷ bytes) all = (all.0, AreBytes-take n bytes all.1)

pub AreBytes-drop : (n : ℕ) (bytes : List ℕ) → AreBytes bytes → AreBytes (drop n bytes)
AreBytes-drop zero bytes all = all
AreBytes-drop (suc n) [] all = tt
AreBytes-drop (suc n) (b ∷ bytes) all = AreBytes-drop n bytes all.1

pub AreBytes-after : (a b : List ℕ) → AreBytes (a ++ b) → AreBytes b
AreBytes-after [] b bytes = bytes
AreBytes-after (x ∷ a) b bytes = AreBytes-after a b bytes.1

pub AreBytes-before : (a b : List ℕ) → AreBytes (a ++ b) → AreBytes a
AreBytes-before [] b bytes = tt
AreBytes-before (x ∷ a) b bytes = (bytes.0, AreBytes-before a b bytes.1)

-- the number that some of the bytes say, and its text
pub says : (width from : ℕ) (bytes : List ℕ) → AreBytes bytes → from + width ≤ length bytes
    → (n : ℕ) × (n < 256 ^ width) × (take width (drop from bytes) ≡ little_endian width n)
says width from bytes all le =
    let part = take width (drop from bytes) in
    let are = AreBytes-take width (drop from bytes) (AreBytes-drop from bytes all) in
    let long : length part ≡ width = omega (arith, length-take width (drop from bytes), length-drop from bytes) in
    (value_of part, value_fits width part are long, sym (little_endian-value_of part are) ∙ ap (λ w. little_endian w (value_of part)) long)

-- ---- numbers

-- a number that begins the bytes, and the rest
pub has_number : (width n : ℕ) (bytes : List ℕ) → take width bytes ≡ little_endian width n
    → bytes ≡ little_endian width n ++ drop width bytes
has_number width n bytes is = sym (take-append-drop width bytes) ∙ ap (λ t. t ++ drop width bytes) is

pub number_split : (width m n : ℕ) (x y : List ℕ) → m < 256 ^ width → n < 256 ^ width
    → little_endian width m ++ x ≡ little_endian width n ++ y → (m ≡ n) × (x ≡ y)
number_split width m n x y fits_m fits_n e =
    let parts = split_same (little_endian width m)
    (little_endian width n) x y (length-little_endian width m ∙ sym (length-little_endian width n)) e in
    (same_number width m n fits_m fits_n parts.0, parts.1)

pub numbers_split : (ms ns x y : List ℕ) → AllByRecursion (λ n. n < 2 ^ 16) ms → AllByRecursion (λ n. n < 2 ^ 16) ns → length ms ≡ length ns
    → flat_map (little_endian 2) ms ++ x ≡ flat_map (little_endian 2) ns ++ y → (ms ≡ ns) × (x ≡ y)
numbers_split [] [] x y fit_m fit_n len e = (refl, e)
numbers_split [] (n ∷ ns) x y fit_m fit_n len e = absurd (omega arith)
numbers_split (m ∷ ms) [] x y fit_m fit_n len e = absurd (omega arith)
numbers_split (m ∷ ms) (n ∷ ns) x y fit_m fit_n len e =
    let here = number_split 2 m n _ _ fit_m.0 fit_n.0
    (sym (append_assoc (little_endian 2 m) (flat_map (little_endian 2) ms) x) ∙ e
    ∙ append_assoc (little_endian 2 n) (flat_map (little_endian 2) ns) y) in
    let rest = numbers_split ms ns x y fit_m.1 fit_n.1 (omega arith) here.1 in
    ((λ i. here.0 i ∷ rest.0 i), rest.1)

-- ---- names

pub name_split : (m n x y : List ℕ) → name_text m ++ x ≡ name_text n ++ y → (m ≡ n) × (x ≡ y)
name_split m n x y e =
    let long : length m ≡ length n = cc in
    split_same m n x y long cc

-- ---- masks

pub masked_twice : (mask : ℕ) (bytes : List ℕ) → masked_bytes mask (masked_bytes mask bytes) ≡ bytes
masked_twice mask [] = refl
masked_twice mask (byte ∷ bytes) =
    let here : bit_xor (bit_xor byte mask) mask ≡ byte = xor_assoc byte mask mask ∙ ap (bit_xor byte) (xor_self mask) ∙ xor_zero_r byte in
    λ i. here i ∷ masked_twice mask bytes i

pub masked_same : (mask : ℕ) (a b : List ℕ) → masked_bytes mask a ≡ masked_bytes mask b → a ≡ b
masked_same mask a b e = sym (masked_twice mask a) ∙ ap (masked_bytes mask) e ∙ masked_twice mask b
