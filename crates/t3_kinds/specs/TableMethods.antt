-- The methods of lookup tables (the chapter on lookup tables, in this project's profile).
use Rattle.std.specs.Prelude.{ℕ, ◌+◌, Bool, true, nat_lt, nat_le, List, [], ◌∷◌, ◌++◌, map, length, Option, Some, None, is_some, option_map, option_and_then, Result, Ok, Err, if◌then◌else◌}
use Rattle.std.specs.List.{list_all}
use Rattle.t3_holder.specs.declared.holder.Holder.{Holder}
use Rattle.t3_holder.specs.declared.holder.Holder.TheVariants as holders
use Rattle.t3_undo.specs.declared.cell.Cell.TheVariants as cells
use Rattle.t3_undo.specs.declared.key.Key.{Key}
use Rattle.t3_undo.specs.declared.key.Key.TheVariants as keys
use Rattle.t3_tables.specs.declared.pair.Pair.{Pair}
use Rattle.t3_pools.specs.Pool.{Pool}
use Rattle.t3_store.specs.Value.{Value, Tads, Text, Items, Vector, Table}
use Rattle.t3_tables.specs.Entries.{value_under}
use Rattle.t3_store.specs.Store.{StoreValue, value_at}
use Rattle.t3_ops.specs.declared.fault.Fault.{Fault}
use Rattle.t3_ops.specs.declared.fault.Fault.TheVariants.{TextLong, ListLong}
use Rattle.t3_ops.specs.Values.{kind_fault}
use Rattle.t3_ops.specs.Keys.{key_of}
use Rattle.t3_ops.specs.Making.{unless_none, fitting_list_of}
use Rattle.t3_kinds.specs.Changes.{Change, Makes, Sets, Deed}
use Rattle.t3_kinds.specs.Deeds.{answers, answers_truth, answers_count, answers_new, when_ok}

-- ---- self

-- a table's entries and its default
pub record TableValue : Type 0 where
  pub pairs : List Pair
  pub default : Holder

abbrev pub table_in : Value → Option TableValue
table_in (Table pairs default) = Some (record { pairs = pairs; default = default })
table_in (Tads supers class props) = None
table_in (Text bytes) = None
table_in (Items items) = None
table_in (Vector items) = None

-- the number and the contents of the table that a value is
abbrev pub table_of : StoreValue → Holder → Option (ℕ × TableValue)
table_of store (holders.Obj number) = option_map (λ table. (number, table)) (option_and_then table_in (value_at store number))
table_of store _ = None

-- goes on with them; what is no table is a fault
abbrev pub when_table : {A : Type 0} → StoreValue → Holder → (ℕ → TableValue → Result A Fault) → Result A Fault
when_table store this result =
    unless_none (kind_fault store (this ∷ [])) (table_of store this) (λ table. result table.0 table.1)

-- ---- by a key

abbrev pub is_key_present_of : Pool → StoreValue → List Pair → Holder → Result Deed Fault
is_key_present_of constants store pairs key =
    when_ok (key_of constants store key) (λ key. answers_truth (is_some (value_under key pairs)))

-- removeElement: the former value is the answer, or nil; taking away what is absent changes nothing
abbrev pub removed_entry : (object : ℕ) → Key → Option Holder → Result Deed Fault
removed_entry object key (Some former) = Ok (record { changes = Sets object (cells.Key key) None ∷ []; answer = former })
removed_entry object key None = answers holders.Nil

abbrev pub remove_entry_of : Pool → StoreValue → (object : ℕ) → List Pair → Holder → Result Deed Fault
remove_entry_of constants store object pairs key =
    when_ok (key_of constants store key) (λ key. removed_entry object key (value_under key pairs))

-- ---- all entries, in their order

abbrev pub entry_count_of : List Pair → Result Deed Fault
entry_count_of pairs = answers_count (length pairs)

abbrev pub value_list_of : StoreValue → List Pair → Result Deed Fault
value_list_of store pairs = answers_new (fitting_list_of (map (λ (pair : Pair). pair.value) pairs)) store

-- a key as a value, where it is no text; a text is the value of the number that a new string of it gets
abbrev pub key_value : ℕ → Key → Holder
key_value next keys.Nil = holders.Nil
key_value next keys.True = holders.True
key_value next (keys.Int z) = holders.Int z
key_value next (keys.Enum n) = holders.Enum n
key_value next (keys.Prop n) = holders.Prop n
key_value next (keys.Func address) = holders.Func address
key_value next (keys.Obj number) = holders.Obj number
key_value next (keys.Text bytes) = holders.Obj next

-- the bytes of a key that is a text
abbrev pub key_text : Key → Option (List ℕ)
key_text (keys.Text bytes) = Some bytes
key_text keys.Nil = None
key_text keys.True = None
key_text (keys.Int z) = None
key_text (keys.Enum n) = None
key_text (keys.Prop n) = None
key_text (keys.Func address) = None
key_text (keys.Obj number) = None

abbrev pub with_string : Option (List ℕ) → List Change → List Change
with_string None changes = changes
with_string (Some bytes) changes = Makes (Text bytes) ∷ changes

-- the strings of the keys that are texts, which are made one after the other
abbrev pub key_strings : List Pair → List Change
key_strings [] = []
key_strings (pair ∷ pairs) = with_string (key_text pair.key) (key_strings pairs)

abbrev pub next_after : Option (List ℕ) → ℕ → ℕ
next_after None next = next
next_after (Some bytes) next = next + 1

-- the keys as values, where the first string that is made gets that number
abbrev pub key_values : ℕ → List Pair → List Holder
key_values next [] = []
key_values next (pair ∷ pairs) = key_value next pair.key ∷ key_values (next_after (key_text pair.key) next) pairs

-- the number of the list, which is made after the strings
abbrev pub number_after : ℕ → List Pair → ℕ
number_after next [] = next
number_after next (pair ∷ pairs) = number_after (next_after (key_text pair.key) next) pairs

abbrev pub has_fitting_text : Option (List ℕ) → Bool
has_fitting_text None = true
has_fitting_text (Some bytes) = nat_le (length bytes) 65535

-- each text is one that a string can have
abbrev pub have_fitting_texts : List Pair → Bool
have_fitting_texts pairs = list_all (λ (pair : Pair). has_fitting_text (key_text pair.key)) pairs

-- keysToList: the strings, and then a list of all keys
abbrev pub listed_keys : StoreValue → List Pair → Deed
listed_keys store pairs = record {
  changes = key_strings pairs ++ Makes (Items (key_values store.next pairs)) ∷ [];
  answer = holders.Obj (number_after store.next pairs);
}

abbrev pub key_list_of : StoreValue → List Pair → Result Deed Fault
key_list_of store pairs =
    if nat_lt 65535 (length pairs) then Err ListLong
    else if have_fitting_texts pairs then Ok (listed_keys store pairs) else Err TextLong

-- ---- the default

abbrev pub set_default_of : (object : ℕ) → Holder → Result Deed Fault
set_default_of object value = Ok (record { changes = Sets object cells.Default (Some value) ∷ []; answer = holders.Nil })
