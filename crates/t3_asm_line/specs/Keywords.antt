-- The table of lines: the keyword that each begins with, and its fields. Instructions are those of the instruction table.
use Rattle.std.specs.Prelude.{ℕ, Bool, ◌&&◌, ◌==◌, List, [], ◌∷◌, length, codes, Option, Some, None, if◌then◌else◌, find}
use Rattle.std.specs.Str.{bytes_eq}
use Rattle.t3_asm_line.specs.declared.field.Field.{Field}
use Rattle.t3_asm_line.specs.declared.field.Field.TheVariants.{Ubyte, Uint2, Uint4, Address, Offset, Value, Jump, BlockName, Name, Reserved, Timestamp}
use Rattle.t3_asm_line.specs.declared.field.Field.TheVariants as fields
use Rattle.t3_methods.specs.declared.instr.Instr.{Instr}
use Rattle.t3_methods.specs.InstructionTable.{row_of as instr_row}
use Rattle.t3_asm_line.specs.Instructions.{instr_at, opcode_named, operand_fields}
use Rattle.t3_asm_line.specs.declared.keyword.Keyword.{Keyword}
use Rattle.t3_asm_line.specs.declared.keyword.Keyword.TheVariants as of

-- a line of the table
pub record Row : Type 0 where
  pub name : List ℕ
  pub fields : List Field

abbrev pub row : List ℕ → List Field → Row
row name fields = record { name = name; fields = fields }

-- an instruction's name, and the fields of its operands; nothing where there is none
abbrev pub row_at : Option Instr → Row
row_at None = row [] []
row_at (Some instr) = row (instr_row instr).name (operand_fields instr)

abbrev pub row_of : Keyword → Row
row_of of.Image = row (codes "image") []
row_of of.ImageHead = row (codes "image") (Reserved ∷ Timestamp ∷ [])
row_of of.Block = row (codes "block") (BlockName ∷ Uint2 ∷ [])
row_of of.End = row (codes "end") (Uint2 ∷ [])
row_of of.Entry = row (codes "entry") (Address ∷ Uint2 ∷ Uint2 ∷ Uint2 ∷ Uint2 ∷ Uint2 ∷ Uint2 ∷ fields.Bytes ∷ [])
row_of of.Pool = row (codes "pool") (Uint2 ∷ Uint4 ∷ Uint4 ∷ [])
row_of of.Page = row (codes "page") (Uint2 ∷ Uint4 ∷ Ubyte ∷ [])
row_of of.Objects = row (codes "objects") (Uint2 ∷ Uint2 ∷ [])
row_of of.Object = row (codes "object") (Uint4 ∷ [])
row_of of.Metaclass = row (codes "metaclass") (Name ∷ Uint2 ∷ fields.Bytes ∷ [])
row_of of.Prop = row (codes "prop") (Uint2 ∷ [])
row_of of.PropBytes = row (codes "prop") (Uint2 ∷ fields.Bytes ∷ [])
row_of of.FunctionSet = row (codes "function-set") (Name ∷ [])
row_of of.Symbol = row (codes "symbol") (Ubyte ∷ Value ∷ Name ∷ [])
row_of of.Bytes = row (codes "bytes") (fields.Bytes ∷ [])
row_of of.U1 = row (codes "u1") (Ubyte ∷ [])
row_of of.U2 = row (codes "u2") (Offset ∷ [])
row_of of.U4 = row (codes "u4") (Address ∷ [])
row_of of.Text = row (codes "text") (fields.Text ∷ [])
row_of of.Hold = row (codes "hold") (Ubyte ∷ Value ∷ [])
row_of of.Method = row (codes "method") (Ubyte ∷ Uint2 ∷ Uint2 ∷ Offset ∷ [])
row_of of.MethodOptional = row (codes "method") (Ubyte ∷ Uint2 ∷ Uint2 ∷ Offset ∷ Ubyte ∷ [])
row_of of.Table = row (codes "table") (Uint2 ∷ [])
row_of of.Handler = row (codes "handler") (Offset ∷ Offset ∷ Uint4 ∷ Offset ∷ [])
row_of of.Case = row (codes "case") (Ubyte ∷ Value ∷ Jump ∷ [])
row_of of.Default = row (codes "default") (Jump ∷ [])
row_of of.Label = row [] []
row_of (of.Instruction opcode) = row_at (instr_at opcode)

-- the keywords of the table but for instructions; a label's line has its label in place of one
abbrev pub keywords : List Keyword
keywords = of.Image ∷ of.ImageHead ∷ of.Block ∷ of.End ∷ of.Entry ∷ of.Pool ∷ of.Page ∷ of.Objects ∷ of.Object
    ∷ of.Metaclass ∷ of.Prop ∷ of.PropBytes ∷ of.FunctionSet ∷ of.Symbol ∷ of.Bytes ∷ of.U1 ∷ of.U2 ∷ of.U4 ∷ of.Text
    ∷ of.Hold ∷ of.Method ∷ of.MethodOptional ∷ of.Table ∷ of.Handler ∷ of.Case ∷ of.Default ∷ []

abbrev pub name_of : Keyword → List ℕ
name_of keyword = (row_of keyword).name

abbrev pub fields_of : Keyword → List Field
fields_of keyword = (row_of keyword).fields

-- a line of this keyword begins with this word, and has so many others
abbrev pub is_form : List ℕ → ℕ → Keyword → Bool
is_form word count keyword = bytes_eq (name_of keyword) word && length (fields_of keyword) == count

abbrev pub if_form : List ℕ → ℕ → Option ℕ → Option Keyword
if_form word count None = None
if_form word count (Some opcode) = if is_form word count (of.Instruction opcode) then Some (of.Instruction opcode) else None

abbrev pub or_instruction : List ℕ → ℕ → Option Keyword → Option Keyword
or_instruction word count (Some keyword) = Some keyword
or_instruction word count None = if_form word count (opcode_named word)

-- the keyword of a line that begins with this word, and has so many others
unfoldable pub keyword_of : List ℕ → ℕ → Option Keyword
keyword_of word count = or_instruction word count (find (is_form word count) keywords)
