-- The operands that the bytes of an instruction say.
use Rattle.std.specs.Prelude.{◌≡◌, ℕ, ◌+◌, ◌^◌, ◌<◌, ◌≤◌, Bool, true, false, ◌&&◌, nat_lt, nat_le, List, [], ◌∷◌, length, take, drop, None, if◌then◌else◌}
use Rattle.std.specs.FinMap.{get}
use Rattle.t3_pools.specs.Pool.{Pool, HasBytes}
use Rattle.std.specs.Int.{w8, w16, w32, cast_signed}
use Rattle.t3_holder.specs.NumberText.{value_of, AreBytes}
use Rattle.t3_methods.specs.declared.kind.Kind.{Kind}
use Rattle.t3_methods.specs.declared.kind.Kind.TheVariants as kinds
use Rattle.t3_methods.specs.Operands.{Operand, Ubyte, Sbyte, Uint2, Jump, Uint4, Int4, Property, Object, Cases, width_of}

-- bytes of code from an address on; none only where none stands there
pub record Shows (code : Pool) (address : ℕ) (bytes : List ℕ) : Type 0 where
  pub are : AreBytes bytes
  pub stands : HasBytes code address bytes
  pub empty : bytes ≡ [] → get code address ≡ None
  pub bounded : 0 < length bytes → address + length bytes < 2 ^ 31

-- as many as a window needs, or all of them
abbrev pub IsWhole : Pool → ℕ → List ℕ → Type 0
IsWhole code address bytes = length bytes < 10 → get code (address + length bytes) ≡ None

-- as many as a window needs, or all of them, and no byte stands at 2^31 or beyond
pub record ShowsAll (code : Pool) (address : ℕ) (bytes : List ℕ) : Type 0 where
  pub shows : Shows code address bytes
  pub whole : IsWhole code address bytes
  pub beyond : (far : ℕ) → 2 ^ 31 ≤ far → get code far ≡ None

-- the number in so many bytes from a place on, its lowest byte first, where they are there whole, and else 0
unfoldable pub number_at : ℕ → List ℕ → ℕ → ℕ
number_at width bytes place = if nat_le (place + width) (length bytes) then value_of (take width (drop place bytes)) else 0

-- the operand of a kind whose number this is, at an address
abbrev pub operand_by : Kind → ℕ → ℕ → Operand
operand_by kinds.Ubyte address n = Ubyte n
operand_by kinds.Sbyte address n = Sbyte (cast_signed w8 n)
operand_by kinds.Uint2 address n = Uint2 n
operand_by kinds.Jump address n = Jump (cast_signed w16 n)
operand_by kinds.Uint4 address n = Uint4 n
operand_by kinds.Int4 address n = Int4 (cast_signed w32 n)
operand_by kinds.Property address n = Property n
operand_by kinds.Object address n = Object n
operand_by kinds.Cases address n = Cases n (address + 2)

-- the operands of these kinds that bytes say from a place on; the first byte stands at the address
abbrev pub operands_by : ℕ → List ℕ → ℕ → List Kind → List Operand
operands_by address bytes place [] = []
operands_by address bytes place (kind ∷ kinds) =
    operand_by kind (address + place) (number_at (width_of kind) bytes place) ∷ operands_by address bytes (place + width_of kind) kinds

-- in how many bytes the numbers of operands stand
abbrev pub widths_of : List Kind → ℕ
widths_of [] = 0
widths_of (kind ∷ kinds) = width_of kind + widths_of kinds

-- whether the number of an operand may be this one, and those in front may be theirs: a property and an object have no number 0
abbrev pub named_by : Kind → Bool → ℕ → Bool
named_by kinds.Ubyte front n = front
named_by kinds.Sbyte front n = front
named_by kinds.Uint2 front n = front
named_by kinds.Jump front n = front
named_by kinds.Uint4 front n = front
named_by kinds.Int4 front n = front
named_by kinds.Property front n = front && nat_lt 0 n
named_by kinds.Object front n = front && nat_lt 0 n
named_by kinds.Cases front n = front

-- the same of all operands of these kinds that bytes say from a place on
abbrev pub are_named : Bool → List ℕ → ℕ → List Kind → Bool
are_named front bytes place [] = front
are_named front bytes place (kind ∷ kinds) =
    are_named (named_by kind front (number_at (width_of kind) bytes place)) bytes (place + width_of kind) kinds

-- whether cases are among the operands
abbrev pub are_cased : List Kind → Bool
are_cased [] = false
are_cased (kinds.Cases ∷ kinds) = true
are_cased (_ ∷ kinds) = are_cased kinds

-- whether cases stand behind all other operands
abbrev pub is_cases_last : List Kind → Bool
is_cases_last [] = true
is_cases_last (kinds.Cases ∷ []) = true
is_cases_last (kinds.Cases ∷ _ ∷ _) = false
is_cases_last (_ ∷ kinds) = is_cases_last kinds

-- whether the operands stand within a window, behind an opcode, but for cases, which are the last then
abbrev pub is_windowed : List Kind → Bool
is_windowed kinds = nat_le (widths_of kinds) 7 && is_cases_last kinds
