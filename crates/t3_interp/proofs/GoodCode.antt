-- Where instructions and methods stand in code of which no byte stands at 2^31 - 1 or beyond, they end below 2^31.
use Rattle.std.proofs.Common.{◌≡◌, ℕ, ◌+◌, ◌*◌, ◌^◌, ◌<◌, ◌≤◌, List, [], ◌∷◌, length, Option, Some, None, Ok, inl, inr, refl, sym, ◌∙◌, arith}
use Rattle.std.specs.FinMap.{get}
use Rattle.std.proofs.lemmas.Bool.{cases_lt}
use Rattle.std.proofs.lemmas.Option.{none-some}
use Rattle.t3_holder.specs.NumberText.{little_endian, twos_complement}
use Rattle.t3_holder.proofs.Numbers.{length-little_endian}
use Rattle.t3_pools.specs.Pool.{Pool, HasBytes}
use Rattle.t3_pools.specs.Constants.{bytes_in}
use Rattle.t3_methods.specs.declared.header.Header.{Header}
use Rattle.t3_methods.specs.declared.instr.Instr.{Instr}
use Rattle.t3_methods.specs.Operands.{Operand, Ubyte, Sbyte, Uint2, Jump, Uint4, Int4, Property, Object, Cases, width_of, kind_of, number_of, size_of, sizes_of, HasOperand, HasOperands}
use Rattle.t3_methods.specs.InstructionTable.{row_of}
use Rattle.t3_methods.specs.MethodHeader.{header_in, header_by}
use Rattle.t3_methods.specs.Answers.{Stands}

module _ (code : Pool) (within : (address : ℕ) → 2 ^ 31 ≤ address + 1 → get code address ≡ None) where
  byte-ends : (address byte : ℕ) → get code address ≡ Some byte → address + 1 < 2 ^ 31
  byte-ends address byte is = elim (cases_lt (address + 1) (2 ^ 31)) [
    | inl less ↦ less
    | inr more ↦ absurd (none-some byte (sym (within address more) ∙ is))
  ]

  bytes-end : (at : ℕ) (bytes : List ℕ) → 0 < length bytes → HasBytes code at bytes → at + length bytes < 2 ^ 31
  bytes-end at [] some has = absurd (omega (arith, some))
  bytes-end at (byte ∷ []) some has = byte-ends at byte has.0
  bytes-end at (byte ∷ next ∷ bytes) some has =
      let more = bytes-end (at + 1) (next ∷ bytes) (omega arith) has.1 in
      omega (arith, more)

  number-ends : (at width n : ℕ) → 0 < width → HasBytes code at (little_endian width n) → at + width < 2 ^ 31
  number-ends at width n some has =
      let long = length-little_endian width n in
      let ends = bytes-end at (little_endian width n) (omega (arith, long, some)) has in
      omega (arith, long, ends)

  plain-ends : (at : ℕ) (operand : Operand) → 0 < width_of (kind_of operand) → HasOperand code at operand
      → at + width_of (kind_of operand) < 2 ^ 31
  plain-ends at operand some has = number-ends at (width_of (kind_of operand)) (number_of operand) some has.number

  operand-ends : (at : ℕ) (operand : Operand) → HasOperand code at operand → at + size_of operand < 2 ^ 31
  operand-ends at (Ubyte n) has = plain-ends at (Ubyte n) (omega arith) has
  operand-ends at (Sbyte z) has = plain-ends at (Sbyte z) (omega arith) has
  operand-ends at (Uint2 n) has = plain-ends at (Uint2 n) (omega arith) has
  operand-ends at (Jump z) has = plain-ends at (Jump z) (omega arith) has
  operand-ends at (Uint4 n) has = plain-ends at (Uint4 n) (omega arith) has
  operand-ends at (Int4 z) has = plain-ends at (Int4 z) (omega arith) has
  operand-ends at (Property n) has = plain-ends at (Property n) (omega arith) has
  operand-ends at (Object n) has = plain-ends at (Object n) (omega arith) has
  operand-ends at (Cases count from) has =
      let from_is : from ≡ at + 2 = has.rest.0 in
      let last = has.rest.1.1 in
      let ends = number-ends (from + 7 * count) 2 (twos_complement 2 last.0) (omega arith) last.1.stands in
      omega (arith, from_is, ends)

  operands-end : (at : ℕ) (operands : List Operand) → at < 2 ^ 31 → HasOperands code at operands → at + sizes_of operands < 2 ^ 31
  operands-end at [] begun has = omega (arith, begun)
  operands-end at (operand ∷ operands) begun has =
      let ends = operands-end (at + size_of operand) operands (operand-ends at operand has.0) has.1 in
      omega (arith, ends)

  -- an instruction that stands ends below 2^31
  pub instruction-ends : (address size : ℕ) (instr : Instr) → Stands code address instr size → address + size < 2 ^ 31
  instruction-ends address size instr stands =
      let begun = byte-ends address (row_of instr).opcode stands.opcode in
      let ends = operands-end (address + 1) (row_of instr).operands begun stands.operands in
      let size_is = stands.size_is in
      omega (arith, ends, size_is)

  -- a method that has a header begins below 2^31
  pub method-begins : (method : ℕ) (header : Header) → header_in code method ≡ Ok header → method < 2 ^ 31
  unfolding header_in bytes_in
  method-begins method header is = by (get code method) refl is
    where
      by : (first : Option ℕ) → get code method ≡ first → header_by (bytes_in 10 code method) ≡ Ok header → method < 2 ^ 31
      by None none found = absurd cc
      by (Some byte) some found = let ends = byte-ends method byte some in omega (arith, ends)
