-- What a decoder finds of an address: an instruction, or why none stands there.
use Rattle.std.proofs.Common.{◌≡◌, ℕ, ◌+◌, ◌<◌, List, [], ◌∷◌, length, map, Some, None, refl, sym, ap, ◌∙◌, subst, arith}
use Rattle.std.specs.FinMap.{get}
use Rattle.t3_pools.specs.Pool.{Pool}
use Rattle.t3_methods.specs.declared.kind.Kind.{Kind}
use Rattle.t3_methods.specs.declared.instr.Instr.{Instr}
use Rattle.t3_methods.specs.declared.rows.TableRow.{TableRow}
use Rattle.t3_methods.specs.declared.window.Window.{Window}
use Rattle.t3_methods.specs.Operands.{Operand, kind_of, width_of, HasOperands, sizes_of}
use Rattle.t3_methods.specs.InstructionTable.{row_of}
use Rattle.t3_methods.specs.Answers.{Stands, HasOtherByte, HasOpcodeAlone}
use Rattle.t3_methods.specs.Inner.Window.{Shows, IsWhole, number_at, operands_by}
use Rattle.t3_methods.specs.Inner.Rows.{HasNoRow, IsRow}
use Rattle.t3_methods.specs.Inner.Cases.{EndsOperands, FindsEnds}
use Rattle.t3_methods.proofs.Operating.{kind_of-operand_by}
use Rattle.t3_methods.proofs.Table.{one_layout}
use Rattle.t3_methods.proofs.MethodHeaders.{byte_there}

pub kinds-operands_by : (address place : ℕ) (bytes : List ℕ) (kinds : List Kind) → map kind_of (operands_by address bytes place kinds) ≡ kinds
kinds-operands_by address place bytes [] = refl
kinds-operands_by address place bytes (kind ∷ kinds) =
    let first = kind_of-operand_by kind (address + place) (number_at (width_of kind) bytes place) in
    let rest = kinds-operands_by address (place + width_of kind) bytes kinds in
    λ i. first i ∷ rest i

-- the opcode that a window begins with
opcode_there : (code : Pool) (opcode : ℕ) (w : Window) → Shows code w.address w.bytes.now → 0 < length w.bytes.now
    → opcode ≡ number_at 1 w.bytes.now 0 → get code w.address ≡ Some opcode
opcode_there code opcode w shows some is =
    let here : w.address + 0 ≡ w.address = omega arith in
    ap (get code) (sym here) ∙ byte_there code w.address 0 opcode w.bytes.now shows (omega (arith, some)) is

pub other_there : (code : Pool) (opcode : ℕ) (w : Window) → Shows code w.address w.bytes.now → 0 < length w.bytes.now
    → opcode ≡ number_at 1 w.bytes.now 0 → HasNoRow row_of opcode → HasOtherByte code w.address opcode
other_there code opcode w shows some is none = record {
  is = opcode_there code opcode w shows some is;
  other = λ known. none known.0 known.1;
}

pub stands_there : (code : Pool) (opcode end : ℕ) (w : Window) (found : TableRow Instr) → Shows code w.address w.bytes.now
    → 0 < length w.bytes.now → opcode ≡ number_at 1 w.bytes.now 0 → IsRow row_of opcode w found → EndsOperands code w 1 found.kinds.now end
    → Stands code w.address found.code end
stands_there code opcode end w found shows some is row ends =
    let operands : (row_of found.code).operands ≡ operands_by w.address w.bytes.now 1 found.kinds.now = ap (λ r. r.operands) row.row_is in
    record {
      opcode = opcode_there code opcode w shows some is ∙ ap Some (sym (ap (λ r. r.opcode) row.row_is));
      operands = subst (λ (os : List Operand). HasOperands code (w.address + 1) os) (sym operands) ends.have;
      size_is = ends.end_is ∙ ap (λ os. 1 + sizes_of os) (sym operands);
    }

pub alone_there : (code : Pool) (opcode : ℕ) (w : Window) (found : TableRow Instr) → Shows code w.address w.bytes.now
    → 0 < length w.bytes.now → opcode ≡ number_at 1 w.bytes.now 0 → IsRow row_of opcode w found → FindsEnds code w 1 found.kinds.now None
    → IsWhole code w.address w.bytes.now → HasOpcodeAlone code w.address
alone_there code opcode w found shows some is row none whole =
    let there = opcode_there code opcode w shows some is in
    let known : (row_of found.code).opcode ≡ opcode = ap (λ r. r.opcode) row.row_is in
    let kinds : map kind_of (row_of found.code).operands ≡ found.kinds.now =
    ap (λ r. map kind_of r.operands) row.row_is ∙ kinds-operands_by w.address 1 w.bytes.now found.kinds.now in
    record {
      opcode = opcode;
      is = there;
      known = (found.code, known);
      bare = λ instr size stands.
          let same : Some (row_of instr).opcode ≡ Some opcode = sym stands.opcode ∙ there in
          let opcode_is : (row_of instr).opcode ≡ opcode = cc in
          none whole (row_of instr).operands (one_layout instr found.code (opcode_is ∙ sym known) ∙ kinds) stands.operands;
    }
