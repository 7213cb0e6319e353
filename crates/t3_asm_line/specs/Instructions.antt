-- Instructions as lines of source: the name of an instruction, and the fields of its operands.
use Rattle.std.specs.Prelude.{ℕ, ◌==◌, List, map, Option, find}
use Rattle.std.specs.Option.{option_map}
use Rattle.std.specs.Str.{bytes_eq}
use Rattle.t3_methods.specs.declared.kind.Kind.{Kind}
use Rattle.t3_methods.specs.declared.kind.Kind.TheVariants as kinds
use Rattle.t3_methods.specs.declared.instr.Instr.{Instr}
use Rattle.t3_methods.specs.Operands.{kind_of}
use Rattle.t3_methods.specs.InstructionTable.{row_of as instr_row}
use Rattle.t3_methods.specs.EveryInstruction.{every}
use Rattle.t3_asm_line.specs.declared.field.Field.{Field}
use Rattle.t3_asm_line.specs.declared.field.Field.TheVariants as fields

-- the field of an operand of each kind; a switch has the number of its cases alone, which stand in lines of their own
abbrev pub field_of : Kind → Field
field_of kinds.Ubyte = fields.Ubyte
field_of kinds.Sbyte = fields.Sbyte
field_of kinds.Uint2 = fields.Uint2
field_of kinds.Jump = fields.Jump
field_of kinds.Uint4 = fields.Address
field_of kinds.Int4 = fields.Int4
field_of kinds.Property = fields.Uint2
field_of kinds.Object = fields.Address
field_of kinds.Cases = fields.Uint2

-- the instruction of a name, and of an opcode, its operands 0
unfoldable pub instr_named : List ℕ → Option Instr
instr_named word = find (λ instr. bytes_eq (instr_row instr).name word) every

unfoldable pub instr_at : ℕ → Option Instr
instr_at opcode = find (λ instr. (instr_row instr).opcode == opcode) every

-- the fields of its operands, in their order
abbrev pub operand_fields : Instr → List Field
operand_fields instr = map (λ operand. field_of (kind_of operand)) (instr_row instr).operands

-- the opcode of the instructions of a name
abbrev pub opcode_named : List ℕ → Option ℕ
opcode_named word = option_map (λ instr. (instr_row instr).opcode) (instr_named word)
