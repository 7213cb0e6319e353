-- Numbers that are clipped.
use Rattle.std.proofs.Common.{◌≡◌, ℕ, zero, suc, ◌+◌, ◌*◌, ◌^◌, lit<, ◌≤◌, min, Option, Some, None, refl, arith, pos, neg_ℤ, inl, inr}
use Rattle.std.proofs.lemmas.Bool.{cases_lt}
use Rattle.std.proofs.Math.Nat.{mul-le-mul_left, pow-le-pow_right}
use Rattle.std.specs.Option.{option_map}
use Rattle.t3_asm_line.specs.Numbers.{negated}
use Rattle.t3_asm_line.specs.Inner.Clipped.{far, near, clipped}

pub clipped_pos : (n : Option ℕ) → option_map near n ≡ option_map clipped (option_map pos n)
clipped_pos None = refl
clipped_pos (Some n) = refl

pub clipped_negated : (n : Option ℕ) → option_map neg_ℤ (option_map near n) ≡ option_map clipped (option_map negated n)
clipped_negated None = refl
clipped_negated (Some zero) = refl
clipped_negated (Some (suc n)) = refl

-- one digit more of a number that was clipped
pub near_more : (value digits base digit : ℕ) → value ≡ min digits far → 1 ≤ base
    → min far (value * base + digit) ≡ min (digits * base + digit) far
near_more value digits base digit e some =
    let at_least : digits * 1 ≤ digits * base = mul-le-mul_left digits some in
    let far_least : far * 1 ≤ far * base = mul-le-mul_left far some in
    elim (cases_lt digits far) [
      | inl below ↦ (let is : value ≡ digits = omega arith in rw is (omega arith))
      | inr above ↦ (let is : value ≡ far = omega arith in rw is (omega arith))
    ]

-- numbers of at most four bytes
pub width_limit : (width : ℕ) → width ≤ 4 → 256 ^ width ≤ 2 ^ 32
width_limit width h = pow-le-pow_right (lit< tt) h
