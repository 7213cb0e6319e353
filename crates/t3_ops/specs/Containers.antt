-- What values have elements or entries: lists, vectors and tables (the chapters on the metaclasses).
use Rattle.std.specs.Prelude.{List, [], Option, Some, None}
use Rattle.t3_holder.specs.declared.holder.Holder.{Holder}
use Rattle.t3_holder.specs.declared.holder.Holder.TheVariants as holders
use Rattle.t3_tables.specs.declared.pair.Pair.{Pair}
use Rattle.t3_pools.specs.Pool.{Pool}
use Rattle.t3_pools.specs.Constants.{list_in}
use Rattle.t3_store.specs.Value.{Value, Tads, Text, Items, Vector, Table}
use Rattle.t3_store.specs.Store.{StoreValue, value_at}

-- a value that is a list or a vector, with its elements; or a table, with its entries and its default; or neither. Where a constant
-- list can't be read, its elements are `None`
pub data Container : Type 0 where
  OfElements : (elements : Option (List Holder)) → Container
  OfEntries : (pairs : List Pair) (default : Holder) → Container
  NoContainer : Container

abbrev pub object_container : Option Value → Container
object_container (Some (Items items)) = OfElements (Some items)
object_container (Some (Vector items)) = OfElements (Some items)
object_container (Some (Table pairs default)) = OfEntries pairs default
object_container (Some _) = NoContainer
object_container None = NoContainer

-- the entries of a table
abbrev pub table_pairs : Option Value → List Pair
table_pairs (Some (Table pairs default)) = pairs
table_pairs (Some (Tads supers class props)) = []
table_pairs (Some (Text bytes)) = []
table_pairs (Some (Items items)) = []
table_pairs (Some (Vector items)) = []
table_pairs None = []

-- a list is a constant list or a live list
abbrev pub container_of : Pool → StoreValue → Holder → Container
container_of constants store (holders.List address) = OfElements (list_in constants address)
container_of constants store (holders.Obj number) = object_container (value_at store number)
container_of constants store _ = NoContainer
