-- How many bytes lines put into pages and objects.
use Rattle.std.specs.Prelude.{ℕ, ◌+◌, List, length, sum_by}
use Rattle.t3_asm_line.specs.declared.argument.Argument.{Argument}
use Rattle.t3_asm_line.specs.declared.field.Field.{Field}
use Rattle.t3_asm_line.specs.declared.field.Layout.{Layout}
use Rattle.t3_asm_line.specs.declared.field.Layout.TheVariants.{Number, Quoted, Hex}
use Rattle.t3_asm_line.specs.declared.keyword.Keyword.{Keyword}
use Rattle.t3_asm_line.specs.declared.keyword.Keyword.TheVariants as of
use Rattle.t3_asm_line.specs.Fields.{layout_of}
use Rattle.t3_asm_line.specs.Keywords.{fields_of}
use Rattle.t3_asm.specs.Arguments.{text_at}

abbrev pub width_in : Layout → ℕ
width_in (Number width below most reference) = width
width_in (Quoted least most) = 0
width_in (Hex least most) = 0

-- how many bytes a number of the field has
abbrev pub width_of : Field → ℕ
width_of field = width_in (layout_of field)

-- how many bytes the numbers of a line have
abbrev pub fields_size : List Field → ℕ
fields_size fields = sum_by width_of fields

-- how many bytes a line puts where it stands in a page or in an object
abbrev pub content_size : Keyword → List Argument → ℕ
content_size of.Bytes arguments = length (text_at arguments 0)
content_size of.Text arguments = 2 + length (text_at arguments 0)
content_size of.U1 arguments = 1
content_size of.U2 arguments = 2
content_size of.U4 arguments = 4
content_size of.Hold arguments = 5
content_size of.Method arguments = 10
content_size of.MethodOptional arguments = 10
content_size of.Table arguments = 2
content_size of.Handler arguments = 10
content_size of.Case arguments = 7
content_size of.Default arguments = 2
content_size (of.Instruction opcode) arguments = 1 + fields_size (fields_of (of.Instruction opcode))
content_size keyword arguments = 0
