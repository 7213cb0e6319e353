-- The fields that the code keeps for a line of the table.
use Rattle.std.specs.Prelude.{List, map}
use Rattle.t3_asm_line.specs.declared.field.Field.{Field}
use Rattle.t3_asm_line.specs.declared.keyword.Fields.{Fields}
use Rattle.t3_asm_line.specs.declared.keyword.Fields.TheVariants.{Listed, Operands}
use Rattle.t3_asm_line.specs.Instructions.{field_of}

abbrev pub fields_in : Fields → List Field
fields_in (Listed fields) = fields.now
fields_in (Operands kinds) = map field_of kinds.now
