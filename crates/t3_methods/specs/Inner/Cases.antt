-- What the functions that read operands and cases answer.
use Rattle.std.specs.Prelude.{◌≡◌, ℕ, ℤ, ◌+◌, ◌*◌, ◌^◌, ◌<◌, ◌≤◌, Bool, true, false, List, length, map, Option, Some, None}
use Rattle.t3_holder.specs.declared.holder.Holder.{Holder}
use Rattle.t3_pools.specs.Pool.{Pool}
use Rattle.t3_methods.specs.declared.kind.Kind.{Kind}
use Rattle.t3_methods.specs.declared.kind.Kind.TheVariants as kinds
use Rattle.t3_methods.specs.declared.window.Window.{Window}
use Rattle.t3_methods.specs.Operands.{Operand, kind_of, width_of, HasCases, HasCase, HasJump, HasOperand, HasOperands, size_of, sizes_of}
use Rattle.t3_methods.specs.Inner.Window.{number_at, operand_by, operands_by, IsWhole}

-- so many cases, and one more distance behind them
pub record HasSwitch (code : Pool) (at count : ℕ) : Type 0 where
  pub cases : HasCases code at count
  pub last : (jump : ℤ) × HasJump code (at + 7 * count) jump

-- whether they stand there
abbrev pub DecidesSwitch : Pool → ℕ → ℕ → Bool → Type 0
DecidesSwitch code at count true = HasSwitch code at count
DecidesSwitch code at count false = ¬ HasSwitch code at count

-- the distance at an address, or none stands there
abbrev pub FindsJump : Pool → ℕ → Option ℤ → Type 0
FindsJump code at None = (jump : ℤ) → ¬ HasJump code at jump
FindsJump code at (Some jump) = HasJump code at jump

-- the case at an address, or none stands there
abbrev pub ReadsCase : Pool → ℕ → Option (Holder × ℤ) → Type 0
ReadsCase code at None = (holder : Holder) (jump : ℤ) → ¬ HasCase code at holder jump
ReadsCase code at (Some found) = HasCase code at found.0 found.1

-- a property and an object have a number other than 0
abbrev pub IsNamed : Kind → ℕ → Type 0
IsNamed kinds.Property n = 0 < n
IsNamed kinds.Object n = 0 < n
IsNamed kinds.Ubyte n = Unit {0}
IsNamed kinds.Sbyte n = Unit {0}
IsNamed kinds.Uint2 n = Unit {0}
IsNamed kinds.Jump n = Unit {0}
IsNamed kinds.Uint4 n = Unit {0}
IsNamed kinds.Int4 n = Unit {0}
IsNamed kinds.Cases n = Unit {0}

-- the operand that a window says of a kind at a place
abbrev pub operand_in : Window → ℕ → Kind → Operand
operand_in window place kind = operand_by kind (window.address + place) (number_at (width_of kind) window.bytes.now place)

-- an operand stands at a place of the window, and ends there
pub record EndsOperand (code : Pool) (window : Window) (place : ℕ) (kind : Kind) (end : ℕ) : Type 0 where
  pub has : HasOperand code (window.address + place) (operand_in window place kind)
  pub end_is : end ≡ place + size_of (operand_in window place kind)
  pub bounded : window.address + end < 2 ^ 31
  pub shown : width_of kind ≡ size_of (operand_in window place kind) → end ≤ length window.bytes.now

-- where the operand of a kind at a place ends, or none of it stands there, as far as a whole window tells
abbrev pub FindsEnd : Pool → Window → ℕ → Kind → Option ℕ → Type 0
FindsEnd code window place kind None =
    IsWhole code window.address window.bytes.now → (operand : Operand) → kind_of operand ≡ kind → ¬ HasOperand code (window.address + place) operand
FindsEnd code window place kind (Some end) = EndsOperand code window place kind end

-- operands stand from a place of the window on, and end there
pub record EndsOperands (code : Pool) (window : Window) (place : ℕ) (kinds : List Kind) (end : ℕ) : Type 0 where
  pub have : HasOperands code (window.address + place) (operands_by window.address window.bytes.now place kinds)
  pub end_is : end ≡ place + sizes_of (operands_by window.address window.bytes.now place kinds)
  pub bounded : window.address + end < 2 ^ 31

-- where operands of these kinds end, or they don't stand there, as far as a whole window tells
abbrev pub FindsEnds : Pool → Window → ℕ → List Kind → Option ℕ → Type 0
FindsEnds code window place kinds None =
    IsWhole code window.address window.bytes.now → (operands : List Operand) → map kind_of operands ≡ kinds → ¬ HasOperands code (window.address + place) operands
FindsEnds code window place kinds (Some end) = EndsOperands code window place kinds end
