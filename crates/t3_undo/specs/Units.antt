-- How many units what stands in a cell counts.
use Rattle.std.specs.Prelude.{ℕ, ◌+◌, List, length}
use Rattle.std.specs.Int.{div_ceil}
use Rattle.t3_undo.specs.declared.cell.Cell.{Cell}
use Rattle.t3_undo.specs.declared.cell.Cell.TheVariants as cells
use Rattle.t3_undo.specs.declared.key.Key.{Key}
use Rattle.t3_undo.specs.declared.key.Key.TheVariants as keys

-- bytes by eights, rounded up
abbrev pub eights : List ℕ → ℕ
eights bytes = div_ceil (length bytes) 8

-- how many units an entry under a key counts
abbrev pub key_units : Key → ℕ
key_units keys.Nil = 1
key_units keys.True = 1
key_units (keys.Int _) = 1
key_units (keys.Enum _) = 1
key_units (keys.Prop _) = 1
key_units (keys.Func _) = 1
key_units (keys.Obj _) = 1
key_units (keys.Text bytes) = 1 + eights bytes

-- how many units a cell that is set counts
abbrev pub cell_units : Cell → ℕ
cell_units (cells.Prop _) = 1
cell_units (cells.Elem _) = 1
cell_units (cells.Key key) = key_units key
cell_units cells.Default = 0
