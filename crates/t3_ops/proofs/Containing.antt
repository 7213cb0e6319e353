-- What elements and entries an object has, by what is asked of it.
use Rattle.std.proofs.Common.{◌≡◌, ℕ, List, Option, Some, None, refl}
use Rattle.std.specs.Option.{option_and_then}
use Rattle.t3_holder.specs.declared.holder.Holder.{Holder}
use Rattle.t3_undo.specs.declared.cell.Cell.TheVariants.{Key as KeyCell, Default}
use Rattle.t3_undo.specs.declared.key.Key.{Key}
use Rattle.t3_store.specs.Value.{Value, Tads, Text, Items, Vector, Table, items_in, length_of, holder_at}
use Rattle.t3_tables.specs.Entries.{value_under}
use Rattle.t3_ops.specs.Containers.{OfElements, OfEntries, NoContainer, object_container, table_pairs}
use Rattle.t3_ops.specs.Elements.{vector_items, IsVectorOf}
use Rattle.t3_ops.specs.Inner.Containers.{IsTableWith}

-- the items of a list are its elements
pub container-items : (value : Option Value) (items : List Holder) → Some items ≡ option_and_then items_in value
    → OfElements (Some items) ≡ object_container value
container-items None items is = cc
container-items (Some (Tads supers class props)) items is = cc
container-items (Some (Text bytes)) items is = cc
container-items (Some (Items all)) items is = cc
container-items (Some (Vector all)) items is = cc
container-items (Some (Table pairs default)) items is = cc

-- so are those of a vector
pub container-vector : (value : Option Value) (count : ℕ) → IsVectorOf value count
    → OfElements (Some (vector_items value)) ≡ object_container value
container-vector None count is = cc
container-vector (Some (Tads supers class props)) count is = cc
container-vector (Some (Text bytes)) count is = cc
container-vector (Some (Items all)) count is = cc
container-vector (Some (Vector all)) count is = refl
container-vector (Some (Table pairs default)) count is = cc

-- what has a default is a table
pub container-table : (value : Option Value) (default : Holder) → IsTableWith value default
    → OfEntries (table_pairs value) default ≡ object_container value
container-table None default is = cc
container-table (Some (Tads supers class props)) default is = cc
container-table (Some (Text bytes)) default is = cc
container-table (Some (Items all)) default is = cc
container-table (Some (Vector all)) default is = cc
container-table (Some (Table pairs own)) default is = cc

-- what is none of them has none
pub container-none : (value : Option Value) → None ≡ option_and_then items_in value → None ≡ option_and_then length_of value
    → None ≡ holder_at value Default → NoContainer ≡ object_container value
container-none None no_list no_vector no_table = refl
container-none (Some (Tads supers class props)) no_list no_vector no_table = refl
container-none (Some (Text bytes)) no_list no_vector no_table = refl
container-none (Some (Items all)) no_list no_vector no_table = cc
container-none (Some (Vector all)) no_list no_vector no_table = cc
container-none (Some (Table pairs default)) no_list no_vector no_table = cc

-- what a table has under a key is among its entries
pub entry-under : (value : Option Value) (default : Holder) (key : Key) → IsTableWith value default
    → holder_at value (KeyCell key) ≡ value_under key (table_pairs value)
entry-under None default key is = cc
entry-under (Some (Tads supers class props)) default key is = cc
entry-under (Some (Text bytes)) default key is = cc
entry-under (Some (Items all)) default key is = cc
entry-under (Some (Vector all)) default key is = cc
entry-under (Some (Table pairs own)) default key is = refl
