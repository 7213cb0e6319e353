-- The texts, vectors and tables that functions hand to each other, and what they find in them.
use Rattle.std.specs.Prelude.{◌≡◌, ◌≤◌, ℕ, Bool, nat_eq, List, Option, Some, None, Result, Ok, Err}
use Rattle.std.specs.List.{starts_with, ends_with}
use Rattle.t3_holder.specs.declared.holder.Holder.{Holder}
use Rattle.t3_holder.specs.declared.no_memory.NoMemory.{NoMemory}
use Rattle.t3_pools.specs.Pool.{Pool}
use Rattle.t3_store.specs.Value.{Table}
use Rattle.t3_store.specs.Store.{StoreValue, value_at}
use Rattle.t3_ops.specs.declared.fault.Fault.{Fault}
use Rattle.t3_ops.specs.References.{elements_of, IsListItems}
use Rattle.t3_ops.specs.Elements.{IsVectorOf, vector_items}
use Rattle.t3_ops.specs.Containers.{table_pairs}
use Rattle.t3_kinds.specs.ListMethods.{Found}
use Rattle.t3_kinds.specs.TableMethods.{TableValue}
use Rattle.t3_kinds.specs.declared.texts.End.{End}
use Rattle.t3_kinds.specs.declared.texts.End.TheVariants as ends
use Rattle.t3_kinds.specs.declared.texts.ReadText.{ReadText}
use Rattle.t3_kinds.specs.declared.texts.ReadText.TheVariants as texts
use Rattle.t3_kinds.specs.declared.lists.Elements.{Elements}
use Rattle.t3_kinds.specs.declared.lists.Elements.TheVariants as elements
use Rattle.t3_kinds.specs.declared.vectors.VectorAt.{VectorAt}
use Rattle.t3_kinds.specs.declared.tables.TableAt.{TableAt}

-- ---- texts

abbrev pub bytes_of : ReadText → List ℕ
bytes_of (texts.Live bytes) = bytes.now
bytes_of (texts.Copied bytes) = bytes.items

abbrev pub test_at : End → List ℕ → List ℕ → Bool
test_at ends.First bytes other = starts_with nat_eq bytes other
test_at ends.Last bytes other = ends_with nat_eq bytes other

-- ---- elements

abbrev pub elements_by : Pool → Elements → List Holder
elements_by constants (elements.List items) = elements_of constants items
elements_by constants (elements.Vector object length) = vector_items object

abbrev pub AreElements : Pool → Elements → Type 0
AreElements constants (elements.List items) = IsListItems constants items
AreElements constants (elements.Vector object length) = IsVectorOf object length

-- what was found, with the turns that are left
abbrev pub IsFound : Found → Result (Result (Option ℕ) Fault) NoMemory → ℕ → Type 0
IsFound wanted (Ok (Ok found)) turns = wanted ≡ Ok (found, turns)
IsFound wanted (Ok (Err fault)) turns = wanted ≡ Err fault
IsFound wanted (Err _) turns = Unit {0}

-- ---- vectors and tables

-- a vector of a store, by its number, with its length
pub record IsVectorAt (store : StoreValue) (vector : VectorAt) : Type 0 where
  pub object : vector.object ≡ value_at store vector.number
  pub long : IsVectorOf vector.object vector.length
  pub few : vector.length ≤ 65535

-- a vector as it is found, or none
abbrev pub FindsVector : StoreValue → Option (ℕ × List Holder) → Option VectorAt → Type 0
FindsVector store wanted None = wanted ≡ None
FindsVector store wanted (Some vector) = (wanted ≡ Some (vector.number, vector_items vector.object)) × IsVectorAt store vector

-- a table of a store, by its number, with its default
pub record IsTableAt (store : StoreValue) (table : TableAt) : Type 0 where
  pub object : table.object ≡ value_at store table.number
  pub is : table.object ≡ Some (Table (table_pairs table.object) table.default)

abbrev pub table_by : TableAt → TableValue
table_by table = record { pairs = table_pairs table.object; default = table.default }

-- a table as it is found, or none
abbrev pub FindsTable : StoreValue → Option (ℕ × TableValue) → Option TableAt → Type 0
FindsTable store wanted None = wanted ≡ None
FindsTable store wanted (Some table) = (wanted ≡ Some (table.number, table_by table)) × IsTableAt store table
