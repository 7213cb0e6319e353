-- The values of objects, by kind: what stands in their cells, how a cell is set, and how much they count.
use Rattle.std.specs.Prelude.{◌≡◌, ◌<◌, ◌≤◌, ℕ, zero, suc, ◌+◌, Bool, false, ◌||◌, List, [], Option, None, Some, map, length, sum_by, MatchOption, IsSome, option_and_then, nat_lt, refl}
use Rattle.std.specs.Ordering.{nat_cmp}
use Rattle.std.specs.FinMap.{FinMap, empty, get, len, entries, from_entries, code as coded_map}
use Rattle.std.specs.Coded.{Coded, code_by, coded×, coded_ℕ, coded_bool, coded_list}
use Rattle.t3_holder.specs.declared.holder.Holder.{Holder}
use Rattle.t3_holder.specs.declared.holder.Holder.TheVariants as holders
use Rattle.t3_undo.specs.Content.{coded_holder}
use Rattle.t3_undo.specs.Key.{coded_key}
use Rattle.t3_undo.specs.declared.cell.Cell.{Cell}
use Rattle.t3_undo.specs.declared.cell.Cell.TheVariants as cells
use Rattle.t3_undo.specs.declared.key.Key.{Key}
use Rattle.t3_undo.specs.Units.{eights, key_units}
use Rattle.t3_tadsobj.specs.Props.{PropMap, pair_of, prop_at, with_prop, without_prop}
use Rattle.t3_lists.specs.Items.{element_at, with_element, without_element, is_element_for, is_last}
use Rattle.t3_tables.specs.Entries.{entry_at, entries_with, default_with, without_entry, is_key}
use Rattle.t3_tadsobj.specs.Object.{is_prop}
use Rattle.t3_tables.specs.Table.{is_cell}
use Rattle.t3_tables.specs.declared.pair.Pair.{Pair}
use Rattle.t3_store.specs.declared.kind.Kind.{Kind}
use Rattle.t3_store.specs.declared.kind.Kind.TheVariants as kinds
use Rattle.t3_store.specs.declared.new_object.NewObject.{NewObject}
use Rattle.t3_store.specs.declared.new_object.NewObject.TheVariants as new

-- the value of an object: of a tads-object its superclasses from left to right, whether it is a class, and its properties;
-- the bytes of a string; the items of a list or a vector; the entries of a table with distinct keys, the oldest first, and
-- its default
pub data Value : Type 0 where
  Tads : (supers : List ℕ) (class : Bool) (props : PropMap) → Value
  Text : (bytes : List ℕ) → Value
  Items : (items : List Holder) → Value
  Vector : (items : List Holder) → Value
  Table : (entries : List Pair) (default : Holder) → Value

abbrev coded_pair : Coded Pair
coded_pair =
    code_by (Key × Holder) (coded× coded_key coded_holder) (λ p. (p.key, p.value)) (λ c. record { key = c.0; value = c.1 }) (λ _. refl)

-- which kind, numbers, a flag, properties, holders, entries, a default
abbrev Coding : Type 0
Coding = ℕ × (List ℕ × (Bool × (PropMap × (List Holder × (List Pair × Holder)))))

abbrev to_code : Value → Coding
to_code (Tads supers class props) = (0, (supers, (class, (props, ([], ([], holders.Nil))))))
to_code (Text bytes) = (1, (bytes, (false, (empty, ([], ([], holders.Nil))))))
to_code (Items items) = (2, ([], (false, (empty, (items, ([], holders.Nil))))))
to_code (Vector items) = (3, ([], (false, (empty, (items, ([], holders.Nil))))))
to_code (Table pairs default) = (4, ([], (false, (empty, ([], (pairs, default))))))

abbrev kind_from : ℕ → List ℕ × (Bool × (PropMap × (List Holder × (List Pair × Holder)))) → Value
kind_from zero c = Tads c.0 c.1.0 c.1.1.0
kind_from (suc zero) c = Text c.0
kind_from (suc (suc zero)) c = Items c.1.1.1.0
kind_from (suc (suc (suc zero))) c = Vector c.1.1.1.0
kind_from (suc (suc (suc (suc _)))) c = Table c.1.1.1.1.0 c.1.1.1.1.1

abbrev from_code : Coding → Value
from_code c = kind_from c.0 c.1

pub from_code-to_code : (v : Value) → from_code (to_code v) ≡ v
from_code-to_code (Tads supers class props) = refl
from_code-to_code (Text bytes) = refl
from_code-to_code (Items items) = refl
from_code-to_code (Vector items) = refl
from_code-to_code (Table pairs default) = refl

abbrev pub coded_value : Coded Value
coded_value =
    code_by Coding
    (coded× coded_ℕ (coded× (coded_list coded_ℕ) (coded× coded_bool
    (coded× (coded_map coded_ℕ coded_holder) (coded× (coded_list coded_holder) (coded× (coded_list coded_pair) coded_holder))))))
    to_code from_code from_code-to_code

-- the values of objects, by their numbers
abbrev pub Objects : Type 0
Objects = FinMap nat_cmp Value

abbrev pub coded_objects : Coded Objects
coded_objects = coded_map coded_ℕ coded_value

-- the superclasses of a tads-object
abbrev pub supers_of : Value → Option (List ℕ)
supers_of (Tads supers class props) = Some supers
supers_of (Text bytes) = None
supers_of (Items items) = None
supers_of (Vector items) = None
supers_of (Table pairs default) = None

abbrev pub is_class_of : Value → Bool
is_class_of (Tads supers class props) = class
is_class_of (Text bytes) = false
is_class_of (Items items) = false
is_class_of (Vector items) = false
is_class_of (Table pairs default) = false

-- the properties of a tads-object
abbrev pub props_in : Value → PropMap
props_in (Tads supers class props) = props
props_in (Text bytes) = empty
props_in (Items items) = empty
props_in (Vector items) = empty
props_in (Table pairs default) = empty

-- the bytes of a string
abbrev pub text_of : Value → Option (List ℕ)
text_of (Tads supers class props) = None
text_of (Text bytes) = Some bytes
text_of (Items items) = None
text_of (Vector items) = None
text_of (Table pairs default) = None

-- the items of a list
abbrev pub items_in : Value → Option (List Holder)
items_in (Tads supers class props) = None
items_in (Text bytes) = None
items_in (Items items) = Some items
items_in (Vector items) = None
items_in (Table pairs default) = None

-- how many elements a vector has
abbrev pub length_of : Value → Option ℕ
length_of (Tads supers class props) = None
length_of (Text bytes) = None
length_of (Items items) = None
length_of (Vector items) = Some (length items)
length_of (Table pairs default) = None

-- the entries of a table, the oldest first
abbrev pub entries_in : Value → Option (List Pair)
entries_in (Tads supers class props) = None
entries_in (Text bytes) = None
entries_in (Items items) = None
entries_in (Vector items) = None
entries_in (Table pairs default) = Some pairs

abbrev pub kind_of : Value → Kind
kind_of (Tads supers class props) = kinds.Tads
kind_of (Text bytes) = kinds.Text
kind_of (Items items) = kinds.List
kind_of (Vector items) = kinds.Vector
kind_of (Table pairs default) = kinds.Table

-- what stands in a cell of a value
abbrev pub holder_in : Value → Cell → Option Holder
holder_in (Tads supers class props) cell = prop_at cell props
holder_in (Text bytes) cell = None
holder_in (Items items) cell = None
holder_in (Vector items) cell = element_at cell items
holder_in (Table pairs default) cell = entry_at cell pairs default

-- a value with one cell set
abbrev pub with_cell : Cell → Holder → Value → Value
with_cell cell holder (Tads supers class props) = Tads supers class (with_prop cell holder props)
with_cell cell holder (Text bytes) = Text bytes
with_cell cell holder (Items items) = Items items
with_cell cell holder (Vector items) = Vector (with_element cell holder items)
with_cell cell holder (Table pairs default) = Table (entries_with cell holder pairs) (default_with cell holder default)

-- a value with one cell taken away
abbrev pub without_cell : Cell → Value → Value
without_cell cell (Tads supers class props) = Tads supers class (without_prop cell props)
without_cell cell (Text bytes) = Text bytes
without_cell cell (Items items) = Items items
without_cell cell (Vector items) = Vector (without_element cell items)
without_cell cell (Table pairs default) = Table (without_entry cell pairs) default

-- whether the value can have something in the cell, as it stands
abbrev pub can_have : Value → Cell → Bool
can_have (Tads supers class props) cell = is_prop cell
can_have (Text bytes) cell = false
can_have (Items items) cell = false
can_have (Vector items) cell = is_element_for cell (length items)
can_have (Table pairs default) cell = is_cell cell

-- whether what stands in the cell can be taken away: a property, the last element of a vector, or an entry of a table
abbrev pub can_lose : Value → Cell → Bool
can_lose (Tads supers class props) cell = is_prop cell
can_lose (Text bytes) cell = false
can_lose (Items items) cell = false
can_lose (Vector items) cell = is_last cell (length items)
can_lose (Table pairs default) cell = is_key cell

-- how many units a value counts
abbrev pub units_of : Value → ℕ
units_of (Tads supers class props) = length supers + len props
units_of (Text bytes) = eights bytes
units_of (Items items) = length items
units_of (Vector items) = length items
units_of (Table pairs default) = sum_by (λ pair. key_units pair.key) pairs

-- a string, a list and a vector have at most 65,535 bytes or elements
abbrev pub HasFittingLength : Value → Type 0
HasFittingLength (Tads supers class props) = Unit {0}
HasFittingLength (Text bytes) = length bytes ≤ 65535
HasFittingLength (Items items) = length items ≤ 65535
HasFittingLength (Vector items) = length items ≤ 65535
HasFittingLength (Table pairs default) = Unit {0}

-- how many units objects count together
abbrev pub units_in : Objects → ℕ
units_in objects = sum_by (λ e. units_of e.1) (entries objects)

-- what stands in a cell of an object, if there is one
abbrev pub holder_at : Option Value → Cell → Option Holder
holder_at None cell = None
holder_at (Some value) cell = holder_in value cell

abbrev pub is_class_at : Option Value → Bool
is_class_at None = false
is_class_at (Some value) = is_class_of value

abbrev pub props_at : Option Value → PropMap
props_at None = empty
props_at (Some value) = props_in value

-- this is the least number of an object above that one
abbrev pub IsNextAbove : Objects → ℕ → Option ℕ → Type 0
IsNextAbove objects number result =
    MatchOption result ((q : ℕ) → number < q → get objects q ≡ None)
    (λ next. (number < next) × IsSome (get objects next) × ((q : ℕ) → number < q → q < next → get objects q ≡ None))

-- how many cells of a value are present: the default of a table is one
abbrev pub cells_of : Value → ℕ
cells_of (Tads supers class props) = len props
cells_of (Text bytes) = 0
cells_of (Items items) = 0
cells_of (Vector items) = length items
cells_of (Table pairs default) = length pairs + 1

abbrev pub cells_at : Option Value → ℕ
cells_at None = 0
cells_at (Some value) = cells_of value

-- whether there is an object, which can have something in the cell
abbrev pub can_have_at : Option Value → Cell → Bool
can_have_at None cell = false
can_have_at (Some value) cell = can_have value cell

-- whether there is an object of which that can be taken away
abbrev pub can_lose_at : Option Value → Cell → Bool
can_lose_at None cell = false
can_lose_at (Some value) cell = can_lose value cell

-- whether a cell of an object can be set to a value, or be taken away where there is none
abbrev pub can_be_written : Option Holder → Option Value → Cell → Bool
can_be_written None value cell = can_lose_at value cell
can_be_written (Some holder) value cell = can_have_at value cell

-- the value of what is to be made
abbrev pub new_value : NewObject → Value
new_value (new.Tads supers class props) = Tads supers class (from_entries (map pair_of props))
new_value (new.Text bytes) = Text bytes
new_value (new.List items) = Items items
new_value (new.Vector items) = Vector items
new_value new.Table = Table [] holders.Nil

-- so many units more are more than there may be
abbrev pub is_past_units : Objects → ℕ → Bool
is_past_units objects units = nat_lt 4194304 (units_in objects + units)

-- a further object that counts so many units is more than there may be
abbrev pub is_past : Objects → ℕ → Bool
is_past objects units = nat_lt 1048576 (len objects + 1) || is_past_units objects units

-- there is a table, without an entry under that key
abbrev pub IsTableWithout : Key → Option Value → Type 0
IsTableWithout key value = (IsSome (option_and_then entries_in value)) × (holder_at value (cells.Key key) ≡ None)
