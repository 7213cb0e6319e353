-- What operations compute of integers of 32 bits are such integers. Other crates may use arith_of-fits.
use Rattle.std.proofs.Common.{◌≡◌, ◌^◌, ◌/◌, ◌%◌, ◌*◌, ◌+ℤ◌, ◌-ℤ◌, ◌*ℤ◌, ℕ, ℤ, pos, negsuc, refl, arith, Bool, true, false, nat_lt, Result, Ok, Err, if◌then◌else◌, FitsSigned}
use Rattle.std.proofs.lemmas.Bool.{ltb-true}
use Rattle.std.specs.Prelude.{int_div, int_rem}
use Rattle.std.specs.Int.{w32, cast_signed, cast_unsigned, int_shl, int_shr}
use Rattle.std.specs.Int.Bits.{bit_and, bit_or, bit_xor}
use Rattle.std.specs.Int.Signed.{mag_rem, mag_shr}
use Rattle.t3_ops.specs.declared.fault.Fault.{Fault}
use Rattle.t3_ops.specs.declared.fault.Fault.TheVariants.{Overflow}
use Rattle.t3_ops.specs.declared.arithmetic.ArithOp.{ArithOp}
use Rattle.t3_ops.specs.declared.arithmetic.ArithOp.TheVariants as ops
use Rattle.t3_ops.specs.Arithmetic.{number, by as computed_by, divisor_of, distance_of, filled_right, arith_of}
use Rattle.t3_good_values.specs.Values.{IsGoodResult}
use borrow.Author.Differences.{fits_in, read_fits}

-- an integer of 32 bits, if it is no fault
abbrev pub IsNumber : Result ℤ Fault → Type 0
IsNumber result = IsGoodResult (λ z. FitsSigned w32 z) result

pub number-fits : (z : ℤ) → IsNumber (number z)
number-fits (pos n) = by (nat_lt n (2 ^ 31)) refl
  where
    by : (fits : Bool) → nat_lt n (2 ^ 31) ≡ fits → IsNumber (if fits then Ok (pos n) else Err Overflow)
    by true less = record { sfits = ltb-true n (2 ^ 31) less }
    by false less = tt
number-fits (negsuc n) = by (nat_lt n (2 ^ 31)) refl
  where
    by : (fits : Bool) → nat_lt n (2 ^ 31) ≡ fits → IsNumber (if fits then Ok (negsuc n) else Err Overflow)
    by true less = record { sfits = ltb-true n (2 ^ 31) less }
    by false less = tt

-- bits as an integer
cast-fits : (n : ℕ) → FitsSigned w32 (cast_signed w32 n)
cast-fits n = omega (arith, fits_in, read_fits w32 n)

computed-fits : {A : Type 0} (found : Result A Fault) (compute : A → Result ℤ Fault) → ((a : A) → IsNumber (compute a))
    → IsNumber (computed_by found compute)
computed-fits (Ok a) compute fits = fits a
computed-fits (Err fault) compute fits = tt

pub arith_of-fits : (op : ArithOp) (x y : ℤ) → FitsSigned w32 x → FitsSigned w32 y → IsNumber (arith_of op x y)
arith_of-fits ops.Add x y fits also = number-fits (x +ℤ y)
arith_of-fits ops.Sub x y fits also = number-fits (x -ℤ y)
arith_of-fits ops.Mul x y fits also = number-fits (x *ℤ y)
arith_of-fits ops.Div x y fits also =
    computed-fits (divisor_of y) (λ divisor. number (int_div x divisor)) (λ divisor. number-fits (int_div x divisor))
arith_of-fits ops.Mod x y fits also =
    computed-fits (divisor_of y) (λ divisor. Ok (int_rem x divisor))
    (λ divisor. record { sfits = omega (arith, mag_rem x divisor, fits.sfits) })
arith_of-fits ops.And x y fits also = cast-fits (bit_and (cast_unsigned w32 x) (cast_unsigned w32 y))
arith_of-fits ops.Or x y fits also = cast-fits (bit_or (cast_unsigned w32 x) (cast_unsigned w32 y))
arith_of-fits ops.Xor x y fits also = cast-fits (bit_xor (cast_unsigned w32 x) (cast_unsigned w32 y))
arith_of-fits ops.Shl x y fits also =
    computed-fits (distance_of y) (λ distance. Ok (int_shl w32 x distance))
    (λ distance. cast-fits ((cast_unsigned w32 x * 2 ^ distance) % 2 ^ 32))
arith_of-fits ops.Ashr x y fits also =
    computed-fits (distance_of y) (λ distance. Ok (int_shr x distance))
    (λ distance. record { sfits = omega (arith, mag_shr x (2 ^ distance), fits.sfits) })
arith_of-fits ops.Lshr x y fits also =
    computed-fits (distance_of y) (λ distance. Ok (filled_right x distance)) (λ distance. cast-fits (cast_unsigned w32 x / 2 ^ distance))
