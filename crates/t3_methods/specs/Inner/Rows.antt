-- What is found of an opcode.
use Rattle.std.specs.Prelude.{◌≡◌, ◌≢◌, ℕ, ◌+◌, Bool, true, false, List, Option, Some, None}
use Rattle.t3_methods.specs.declared.instr.Instr.{Instr}
use Rattle.t3_methods.specs.declared.window.Window.{Window}
use Rattle.t3_methods.specs.declared.rows.TableRow.{TableRow}
use Rattle.t3_methods.specs.InstructionTable.{Row, row, row_of}
use Rattle.t3_methods.specs.Inner.Window.{operands_by, widths_of, are_named, are_cased, is_windowed}

-- no row has the opcode
abbrev pub HasNoRow : {Code : Type 0} → (Code → Row) → ℕ → Type 0
HasNoRow {Code} rows opcode = (code : Code) → (rows code).opcode ≢ opcode

-- the row of an opcode, with the operands that the window's bytes say
pub record IsRow {Code : Type 0} (rows : Code → Row) (opcode : ℕ) (window : Window) (found : TableRow Code) : Type 0 where
  pub row_is : rows found.code ≡ row opcode found.name.now (operands_by window.address window.bytes.now 1 found.kinds.now) found.takes found.slot
  pub end_is : found.end ≡ 1 + widths_of found.kinds.now
  pub named_is : found.is_named ≡ are_named true window.bytes.now 1 found.kinds.now
  pub cases_are : found.has_cases ≡ are_cased found.kinds.now
  pub windowed : is_windowed found.kinds.now ≡ true

-- the row of an opcode, or that none has it
abbrev pub FindsRow : {Code : Type 0} → (Code → Row) → ℕ → Window → Option (TableRow Code) → Type 0
FindsRow rows opcode window None = HasNoRow rows opcode
FindsRow rows opcode window (Some found) = IsRow rows opcode window found

-- an instruction of the opcode has the name
pub record HasName (opcode : ℕ) (name : List ℕ) : Type 0 where
  pub instr : Instr
  pub opcode_is : (row_of instr).opcode ≡ opcode
  pub name_is : (row_of instr).name ≡ name

-- whether an opcode's instruction has the name
abbrev pub DecidesName : List ℕ → ℕ → Bool → Type 0
DecidesName name opcode true = HasName opcode name
DecidesName name opcode false = (instr : Instr) → (row_of instr).opcode ≡ opcode → (row_of instr).name ≢ name
