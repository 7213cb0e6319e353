-- What stands in a present cell.
use Rattle.std.specs.Prelude.{ℕ, List, Option, None, Some}
use Rattle.t3_holder.specs.declared.holder.Holder.{Holder}

-- what stands in a present cell: a value, in a table's entry with its tick; or a list of superclasses, which no cell has yet
pub data Present : Type 0 where
  Value : (tick : Option ℕ) (value : Holder) → Present
  Supers : (supers : List ℕ) → Present

-- the tick of a table's entry
abbrev pub tick_in : Present → Option ℕ
tick_in (Value tick value) = tick
tick_in (Supers supers) = None

-- the value, where what stands there is one
abbrev pub value_in : Present → Option Holder
value_in (Value tick value) = Some value
value_in (Supers supers) = None
