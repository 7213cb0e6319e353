-- The fields of lines: how each is written, and what it holds.
use Rattle.std.specs.Prelude.{ℕ, ◌^◌, ◌-◌, ◌≤◌, ◌<◌, Some, None}
use Rattle.t3_asm_line.specs.declared.field.Field.{Field}
use Rattle.t3_asm_line.specs.declared.field.Field.TheVariants as fields
use Rattle.t3_asm_line.specs.declared.field.Layout.{Layout}
use Rattle.t3_asm_line.specs.declared.field.Layout.TheVariants.{Number, Quoted, Hex}
use Rattle.t3_asm_line.specs.declared.field.Reference.{Reference}
use Rattle.t3_asm_line.specs.declared.field.Reference.TheVariants.{Nothing, Address, Offset}

-- a number of so many bytes from 0 on, and what may stand in its place
abbrev pub unsigned : ℕ → Reference → Layout
unsigned width reference = Number width 0 (256 ^ width - 1) reference

-- the table of fields: of a number how many bytes it has, how far below 0 it goes and its greatest;
-- of a text its least size and its greatest
abbrev pub layout_of : Field → Layout
layout_of fields.Ubyte = unsigned 1 Nothing
layout_of fields.Uint2 = unsigned 2 Nothing
layout_of fields.Uint4 = unsigned 4 Nothing
layout_of fields.Sbyte = Number 1 128 127 Nothing
layout_of fields.Int4 = Number 4 2147483648 2147483647 Nothing
layout_of fields.Address = unsigned 4 Address
layout_of fields.Offset = unsigned 2 Offset
layout_of fields.Value = Number 4 2147483648 4294967295 Address
layout_of fields.Jump = Number 2 32768 32767 Address
layout_of fields.BlockName = Quoted 4 (Some 4)
layout_of fields.Name = Quoted 0 (Some 255)
layout_of fields.Text = Quoted 0 (Some 65535)
layout_of fields.Reserved = Hex 32 (Some 32)
layout_of fields.Timestamp = Hex 24 (Some 24)
layout_of fields.Bytes = Hex 0 None

-- a number has at most four bytes, which hold each number of the field
pub record HoldsNumbers (width below most : ℕ) : Type 0 where
  pub few : width ≤ 4
  pub low : below ≤ 256 ^ width
  pub high : most < 256 ^ width

abbrev pub IsSound : Layout → Type 0
IsSound (Number width below most reference) = HoldsNumbers width below most
IsSound (Quoted least most) = Unit {0}
IsSound (Hex least most) = Unit {0}
