-- The shape of an opcode, and the opcode of a name.
use Rattle.std.proofs.Common.{◌≡◌, ◌≢◌, ℕ, ◌<◌, ◌≤◌, List, Some, None, map, refl, sym, ap, ◌∙◌, arith}
use Rattle.t3_methods.specs.declared.instr.Instr.{Instr}
use Rattle.t3_methods.specs.declared.rows.TableRow.{TableRow}
use Rattle.t3_methods.specs.declared.window.Window.{Window}
use Rattle.t3_methods.specs.Operands.{kind_of}
use Rattle.t3_methods.specs.InstructionTable.{row_of}
use Rattle.t3_methods.specs.Answers.{HasShape, FindsOpcode}
use Rattle.t3_methods.specs.Inner.Rows.{IsRow, HasName}
use Rattle.t3_methods.proofs.Decoding.{kinds-operands_by}
use Rattle.t3_methods.proofs.Table.{one_name, one_layout, one_opcode, opcode_less}

pub shape_there : (opcode : ℕ) (w : Window) (found : TableRow Instr) → IsRow row_of opcode w found → HasShape opcode found.name.now found.kinds.now
shape_there opcode w found row =
    let opcode_is : (row_of found.code).opcode ≡ opcode = ap (λ r. r.opcode) row.row_is in
    let name_is : (row_of found.code).name ≡ found.name.now = ap (λ r. r.name) row.row_is in
    let kinds_are : map kind_of (row_of found.code).operands ≡ found.kinds.now =
    ap (λ r. map kind_of r.operands) row.row_is ∙ kinds-operands_by w.address 1 w.bytes.now found.kinds.now in
    record {
      known = (found.code, opcode_is);
      each = λ instr same. (
        one_name instr found.code (same ∙ sym opcode_is) ∙ name_is,
        one_layout instr found.code (same ∙ sym opcode_is) ∙ kinds_are,
      );
    }

pub name_found : (opcode : ℕ) (name : List ℕ) → HasName opcode name → FindsOpcode name (Some opcode)
name_found opcode name has = (
  (has.instr, has.opcode_is),
  λ instr. (
    (λ named. one_opcode instr has.instr (named ∙ sym has.name_is) ∙ has.opcode_is),
    (λ same. one_name instr has.instr (same ∙ sym has.opcode_is) ∙ has.name_is),
  ),
)

pub no_name : (name : List ℕ) (past : ℕ) → 256 ≤ past
    → ((opcode : ℕ) → opcode < past → (instr : Instr) → (row_of instr).opcode ≡ opcode → (row_of instr).name ≢ name) → FindsOpcode name None
no_name name past le none instr = none (row_of instr).opcode (omega (arith, opcode_less instr, le)) instr refl
