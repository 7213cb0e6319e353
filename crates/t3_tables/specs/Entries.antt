-- The entries of a table and its default: what stands in a cell, and what a change of one does.
use Rattle.std.specs.Prelude.{◌≡◌, ℕ, ◌+◌, Bool, true, false, not, ◌&&◌, if◌then◌else◌, List, [], ◌∷◌, ◌++◌, Option, None, Some, IsTrue, IsSome, map, filter, is_some}
use Rattle.std.specs.Ordering.{eq_by_cmp}
use Rattle.std.specs.FinMap.{get}
use Rattle.t3_holder.specs.declared.holder.Holder.{Holder}
use Rattle.t3_holder.specs.declared.holder.Holder.TheVariants as holders
use Rattle.t3_undo.specs.Content.{Parts, is_form}
use Rattle.t3_undo.specs.Key.{key_cmp}
use Rattle.t3_undo.specs.Present.{Present}
use Rattle.t3_undo.specs.Present as presents
use Rattle.t3_undo.specs.declared.cell.Cell.{Cell}
use Rattle.t3_undo.specs.declared.cell.Cell.TheVariants as cells
use Rattle.t3_undo.specs.declared.key.Key.{Key}
use Rattle.t3_tables.specs.Order.{with_value}
use Rattle.t3_tables.specs.Table.{is_cell}
use Rattle.t3_tables.specs.declared.pair.Pair.{Pair}

-- the parts of a table: entries, each with a tick, and the default
pub record IsWholeTable (parts : Parts) : Type 0 where
  pub only : (cell : Cell) (present : Present) → get parts cell ≡ Some present → IsTrue (is_cell cell && is_form cell (Some present))
  pub default : IsSome (get parts cells.Default)

-- the value that stands there, or else nil
abbrev pub value_or_nil : Option Present → Holder
value_or_nil None = holders.Nil
value_or_nil (Some (presents.Value tick value)) = value
value_or_nil (Some (presents.Supers supers)) = holders.Nil

-- the default among the parts of a table
abbrev pub default_of : Parts → Holder
default_of parts = value_or_nil (get parts cells.Default)

-- the value under a key
abbrev pub value_under : Key → List Pair → Option Holder
value_under key [] = None
value_under key (pair ∷ pairs) = if eq_by_cmp key_cmp key pair.key then Some pair.value else value_under key pairs

-- what stands in a cell of a table
abbrev pub entry_at : Cell → List Pair → Holder → Option Holder
entry_at (cells.Key key) pairs default = value_under key pairs
entry_at cells.Default pairs default = Some default
entry_at (cells.Prop _) pairs default = None
entry_at (cells.Elem _) pairs default = None

-- the entries with a key set: one that is absent comes last, and one that is present keeps its place
abbrev pub set_entry : Key → Holder → List Pair → List Pair
set_entry key holder pairs =
    if is_some (value_under key pairs) then map (with_value key holder) pairs else pairs ++ record { key = key; value = holder } ∷ []

-- the entries with a cell set
abbrev pub entries_with : Cell → Holder → List Pair → List Pair
entries_with (cells.Key key) holder pairs = set_entry key holder pairs
entries_with cells.Default holder pairs = pairs
entries_with (cells.Prop _) holder pairs = pairs
entries_with (cells.Elem _) holder pairs = pairs

-- and the default
abbrev pub default_with : Cell → Holder → Holder → Holder
default_with (cells.Key _) holder default = default
default_with cells.Default holder default = holder
default_with (cells.Prop _) holder default = default
default_with (cells.Elem _) holder default = default

-- the entries without a key
abbrev pub without_key : Key → List Pair → List Pair
without_key key pairs = filter (λ pair. not (eq_by_cmp key_cmp key pair.key)) pairs

abbrev pub without_entry : Cell → List Pair → List Pair
without_entry (cells.Key key) pairs = without_key key pairs
without_entry cells.Default pairs = pairs
without_entry (cells.Prop _) pairs = pairs
without_entry (cells.Elem _) pairs = pairs

-- whether the cell is an entry
abbrev pub is_key : Cell → Bool
is_key (cells.Key _) = true
is_key cells.Default = false
is_key (cells.Prop _) = false
is_key (cells.Elem _) = false

-- where nothing stood a tick more may be given, and else none
abbrev pub risen : ℕ → Option Present → ℕ
risen bound None = bound + 1
risen bound (Some present) = bound
