-- What a change of an object's parts does to its value, for each kind.
use Rattle.std.proofs.Common.{◌≡◌, ◌∙◌, ap, sym, refl, ℕ, ◌+◌, ◌≤◌, length, true, cond, List, Option, None, Some, IfSome, IsTrue, IsSome, is_some, true≢false, arith}
use Rattle.std.specs.Option.{option_and_then}
use Rattle.std.specs.FinMap.{get, empty, get-empty, contains_key}
use Rattle.t3_holder.specs.declared.holder.Holder.{Holder}
use Rattle.t3_undo.specs.Cell.{cell_cmp}
use Rattle.t3_undo.specs.Content.{Parts, shown, is_form, is_held}
use Rattle.t3_undo.specs.declared.content.Content.{Content}
use Rattle.t3_undo.specs.Present.{Present, value_in}
use Rattle.t3_undo.specs.Present as presents
use Rattle.t3_undo.specs.Objects.{set_at, with_part}
use Rattle.t3_undo.specs.declared.cell.Cell.{Cell}
use Rattle.t3_undo.specs.declared.cell.Cell.TheVariants as cells
use Rattle.t3_tadsobj.specs.Object.{is_prop}
use Rattle.t3_lists.specs.Vector.{items_of, is_element}
use Rattle.t3_lists.proofs.Items.{items-filled}
use Rattle.t3_tables.proofs.TableLists.{distinct-entries_of}
use Rattle.t3_undo.specs.declared.key.Key.{Key}
use Rattle.t3_store.specs.Value.{holder_at, can_have_at, entries_in, Value, Tads, Text, Items, Vector, Table, length_of, units_of, holder_in, with_cell, without_cell, can_have, can_lose}
use Rattle.t3_undo.specs.Units.{cell_units}
use Rattle.t3_lists.specs.Items.{element_at, is_element_for, is_last}
use Rattle.t3_store.specs.Inner.Shapes.{Shape, TadsShape, TextShape, ItemsShape, VectorShape, TableShape, thing_of, places_of, value_of, tick_behind}
use Rattle.t3_store.specs.declared.object.Object.{Object}
use Rattle.t3_store.specs.declared.object.Object.TheVariants as objects
use Rattle.t3_store.specs.Inner.Valid.{IsValid}
use Rattle.t3_tadsobj.proofs.PropValues.{found-prop, prop-valued, props-set, props_of-with, props_of-without, len-with, len-without, present-prop}
use Rattle.t3_lists.proofs.ItemValues.{held-vector, vector-valued, vector-set, whole-with, vector-without, whole-less, length-with, length-without, present-element}
use Rattle.t3_tables.proofs.EntryValues.{held-table, table-valued, entries-without, default-without, whole-without, IsTableSet}
use Rattle.t3_tables.proofs.EntryUnits.{HasDistinctKeys, units-entry, units-without}

abbrev held_in : Option Present → Option Holder
held_in o = option_and_then value_in o

-- an object without cells has nothing in one
held-none : (parts : Parts) (cell : Cell) → parts ≡ empty → held_in (get parts cell) ≡ None
held-none parts cell e = ap (λ p. held_in (get p cell)) e ∙ ap held_in (get-empty cell_cmp cell)

none-valued : (parts : Parts) (cell : Cell) → parts ≡ empty → is_some (held_in (get parts cell)) ≡ is_some (get parts cell)
none-valued parts cell e =
    let none = ap (λ p. get p cell) e ∙ get-empty cell_cmp cell in ap (λ o. is_some (held_in o)) none ∙ sym (ap is_some none)

-- how many elements a vector has
pub few-elements : (thing : Shape × Parts) → IsValid thing → IfSome (length_of (value_of thing)) (λ count. count ≤ 65535)
few-elements (TadsShape supers class, parts) valid = tt
few-elements (TextShape bytes, parts) valid = tt
few-elements (ItemsShape items, parts) valid = tt
few-elements (VectorShape, parts) whole =
    let long : length (items_of parts) ≡ length whole.items = ap length (ap items_of whole.are ∙ items-filled whole.items) in
    omega (arith, long, whole.few)
few-elements (TableShape, parts) valid = tt

-- a value with a cell set
pub value-with : (thing : Shape × Parts) (cell : Cell) (value : Holder) → (thing.0 ≡ TableShape → ⊥) → IsTrue (can_have (value_of thing) cell) → IsValid thing
    → value_of (with_part cell (Some (presents.Value None value)) thing) ≡ with_cell cell value (value_of thing)
value-with (TadsShape supers class, parts) cell value other can valid = ap (Tads supers class) (props_of-with parts cell value can)
value-with (TextShape bytes, parts) cell value other can valid = absurd (true≢false (sym can))
value-with (ItemsShape items, parts) cell value other can valid = absurd (true≢false (sym can))
value-with (VectorShape, parts) cell value other can valid = ap Vector (vector-set parts cell value valid can)
value-with (TableShape, parts) cell value other can valid = absurd (other refl)

-- the content has the form of a cell that isn't a table's
pub held-form : (thing : Shape × Parts) (cell : Cell) (value : Holder) → (thing.0 ≡ TableShape → ⊥) → IsTrue (can_have (value_of thing) cell)
    → IsTrue (is_form cell (Some (presents.Value None value)))
held-form thing (cells.Prop n) value other can = refl
held-form thing (cells.Elem n) value other can = refl
held-form thing cells.Default value other can = refl
held-form (TadsShape supers class, parts) (cells.Key key) value other can = absurd (true≢false (sym can))
held-form (TextShape bytes, parts) (cells.Key key) value other can = absurd (true≢false (sym can))
held-form (ItemsShape items, parts) (cells.Key key) value other can = absurd (true≢false (sym can))
held-form (VectorShape, parts) (cells.Key key) value other can = absurd (true≢false (sym can))
held-form (TableShape, parts) (cells.Key key) value other can = absurd (other refl)

pub valid-with : (thing : Shape × Parts) (cell : Cell) (value : Holder) → (thing.0 ≡ TableShape → ⊥) → IsTrue (can_have (value_of thing) cell) → IsValid thing
    → IsValid (with_part cell (Some (presents.Value None value)) thing)
valid-with (TadsShape supers class, parts) cell value other can valid =
    props-set parts cell (Some (presents.Value None value)) valid can (held-form (TadsShape supers class, parts) cell value other can)
valid-with (TextShape bytes, parts) cell value other can valid = absurd (true≢false (sym can))
valid-with (ItemsShape items, parts) cell value other can valid = absurd (true≢false (sym can))
valid-with (VectorShape, parts) cell value other can valid = whole-with parts cell value valid can
valid-with (TableShape, parts) cell value other can valid = absurd (other refl)

-- and with a cell taken away
pub value-without : (thing : Shape × Parts) (cell : Cell) → IsTrue (can_lose (value_of thing) cell) → IsValid thing
    → value_of (with_part cell None thing) ≡ without_cell cell (value_of thing)
value-without (TadsShape supers class, parts) cell can valid = ap (Tads supers class) (props_of-without parts cell can)
value-without (TextShape bytes, parts) cell can valid = absurd (true≢false (sym can))
value-without (ItemsShape items, parts) cell can valid = absurd (true≢false (sym can))
value-without (VectorShape, parts) cell can valid = ap Vector (vector-without parts cell valid can)
value-without (TableShape, parts) cell can valid = λ i. Table (entries-without parts cell can i) (default-without parts cell can i)

pub lose-form : (value : Value) (cell : Cell) → IsTrue (can_lose value cell) → IsTrue (is_form cell None)
lose-form value (cells.Prop n) can = refl
lose-form value (cells.Elem n) can = refl
lose-form value (cells.Key key) can = refl
lose-form (Tads supers class props) cells.Default can = absurd (true≢false (sym can))
lose-form (Text bytes) cells.Default can = absurd (true≢false (sym can))
lose-form (Items items) cells.Default can = absurd (true≢false (sym can))
lose-form (Vector items) cells.Default can = absurd (true≢false (sym can))
lose-form (Table pairs default) cells.Default can = absurd (true≢false (sym can))

pub valid-without : (thing : Shape × Parts) (cell : Cell) → IsTrue (can_lose (value_of thing) cell) → IsValid thing → IsValid (with_part cell None thing)
valid-without (TadsShape supers class, parts) cell can valid =
    props-set parts cell None valid can (lose-form (value_of (TadsShape supers class, parts)) cell can)
valid-without (TextShape bytes, parts) cell can valid = absurd (true≢false (sym can))
valid-without (ItemsShape items, parts) cell can valid = absurd (true≢false (sym can))
valid-without (VectorShape, parts) cell can valid = whole-less parts cell valid can
valid-without (TableShape, parts) cell can valid = whole-without parts cell valid can

-- what stands in a cell
pub held-value : (thing : Shape × Parts) (cell : Cell) → IsValid thing
    → option_and_then value_in (get thing.1 cell) ≡ holder_in (value_of thing) cell
held-value (TadsShape supers class, parts) cell valid = found-prop parts cell valid
held-value (TextShape bytes, parts) cell valid = held-none parts cell valid.1
held-value (ItemsShape items, parts) cell valid = held-none parts cell valid.1
held-value (VectorShape, parts) cell valid = held-vector parts cell valid
held-value (TableShape, parts) cell valid = held-table parts cell valid

-- what is present is a value
pub thing-valued : (thing : Shape × Parts) (cell : Cell) → IsValid thing
    → is_some (option_and_then value_in (get thing.1 cell)) ≡ is_some (get thing.1 cell)
thing-valued (TadsShape supers class, parts) cell valid = prop-valued parts cell valid
thing-valued (TextShape bytes, parts) cell valid = none-valued parts cell valid.1
thing-valued (ItemsShape items, parts) cell valid = none-valued parts cell valid.1
thing-valued (VectorShape, parts) cell valid = vector-valued parts cell valid
thing-valued (TableShape, parts) cell valid = table-valued parts cell valid

-- a table once a cell is set
pub table-set : (parts : Parts) (cell : Cell) (value : Holder) (next : ℕ) (content : Content) → IsTableSet parts cell value next content
    → value_of (TableShape, set_at parts cell (shown content)) ≡ with_cell cell value (value_of (TableShape, parts))
table-set parts cell value next content is = λ i. Table (is.entries i) (is.default i)

-- an object that isn't a table has another shape
pub other-shape : (object : Object) → ((x : _) → object ≡ objects.Table x → ⊥) → (thing_of object).0 ≡ TableShape → ⊥
other-shape (objects.Tads o) other is = cc
other-shape (objects.Text t) other is = cc
other-shape (objects.List l) other is = cc
other-shape (objects.Vector v) other is = cc
other-shape (objects.Table t) other is = other t refl

-- a string and a list have no places
pub placed-text : (object : Object) (t : List ℕ) (cell : Cell) → object ≡ objects.Text t
    → IsTrue (contains_key (places_of object) cell) → ⊥
placed-text object t cell is placed =
    true≢false (sym placed ∙ ap (λ o. contains_key (places_of o) cell) is ∙ ap is_some (get-empty cell_cmp cell))

pub placed-list : (object : Object) (l : List Holder) (cell : Cell) → object ≡ objects.List l
    → IsTrue (contains_key (places_of object) cell) → ⊥
placed-list object l cell is placed =
    true≢false (sym placed ∙ ap (λ o. contains_key (places_of o) cell) is ∙ ap is_some (get-empty cell_cmp cell))

-- what has something in a cell can have it
pub present-can : (value : Value) (cell : Cell) → IsSome (holder_in value cell) → IsTrue (can_have value cell)
present-can (Tads supers class props) cell some = present-prop props cell some
present-can (Text bytes) cell some = absurd (true≢false (sym some))
present-can (Items items) cell some = absurd (true≢false (sym some))
present-can (Vector items) cell some = present-element items cell some
present-can (Table pairs default) (cells.Key key) some = refl
present-can (Table pairs default) cells.Default some = refl
present-can (Table pairs default) (cells.Prop n) some = absurd (true≢false (sym some))
present-can (Table pairs default) (cells.Elem n) some = absurd (true≢false (sym some))

-- properties and elements count one
one-unit : (cell : Cell) → (is_prop cell ≡ true) → cell_units cell ≡ 1
one-unit (cells.Prop n) can = refl
one-unit (cells.Elem n) can = refl
one-unit (cells.Key key) can = absurd (true≢false (sym can))
one-unit cells.Default can = absurd (true≢false (sym can))

one-element : (cell : Cell) (count : ℕ) → is_element_for cell count ≡ true → cell_units cell ≡ 1
one-element (cells.Prop n) count can = refl
one-element (cells.Elem n) count can = refl
one-element (cells.Key key) count can = absurd (true≢false (sym can))
one-element cells.Default count can = absurd (true≢false (sym can))

one-last : (cell : Cell) (count : ℕ) → is_last cell count ≡ true → cell_units cell ≡ 1
one-last (cells.Prop n) count can = refl
one-last (cells.Elem n) count can = refl
one-last (cells.Key key) count can = absurd (true≢false (sym can))
one-last cells.Default count can = absurd (true≢false (sym can))

-- the units of a value with a cell set
pub units_of-with : (value : Value) (cell : Cell) (holder : Holder) → IsTrue (can_have value cell)
    → units_of (with_cell cell holder value)
    ≡ cond (is_some (holder_in value cell)) (units_of value) (units_of value + cell_units cell)
units_of-with (Tads supers class props) cell holder can =
    len-with (length supers) props cell holder can
    ∙ ap (λ n. cond (is_some (holder_in (Tads supers class props) cell)) (units_of (Tads supers class props)) (units_of (Tads supers class props) + n))
    (sym (one-unit cell can))
units_of-with (Text bytes) cell holder can = absurd (true≢false (sym can))
units_of-with (Items items) cell holder can = absurd (true≢false (sym can))
units_of-with (Vector items) cell holder can =
    length-with items cell holder can
    ∙ ap (λ n. cond (is_some (element_at cell items)) (length items) (length items + n)) (sym (one-element cell (length items) can))
units_of-with (Table pairs default) (cells.Key key) holder can = units-entry key holder pairs
units_of-with (Table pairs default) cells.Default holder can = refl
units_of-with (Table pairs default) (cells.Prop n) holder can = absurd (true≢false (sym can))
units_of-with (Table pairs default) (cells.Elem n) holder can = absurd (true≢false (sym can))

-- the keys of a table are distinct
pub HasApartKeys : Value → Type 0
HasApartKeys (Tads supers class props) = Unit {0}
HasApartKeys (Text bytes) = Unit {0}
HasApartKeys (Items items) = Unit {0}
HasApartKeys (Vector items) = Unit {0}
HasApartKeys (Table pairs default) = HasDistinctKeys pairs

pub apart-keys : (thing : Shape × Parts) → HasApartKeys (value_of thing)
unfolding HasApartKeys HasDistinctKeys
apart-keys (TadsShape supers class, parts) = tt
apart-keys (TextShape bytes, parts) = tt
apart-keys (ItemsShape items, parts) = tt
apart-keys (VectorShape, parts) = tt
apart-keys (TableShape, parts) = distinct-entries_of parts

-- and with a cell taken away
pub units_of-without : (value : Value) (cell : Cell) → IsSome (holder_in value cell) → IsTrue (can_lose value cell) → HasApartKeys value
    → units_of (without_cell cell value) + cell_units cell ≡ units_of value
unfolding HasApartKeys
units_of-without (Tads supers class props) cell some can apart =
    let less = len-without props cell some in let one = one-unit cell can in omega (arith, less, one)
units_of-without (Text bytes) cell some can apart = absurd (true≢false (sym can))
units_of-without (Items items) cell some can apart = absurd (true≢false (sym can))
units_of-without (Vector items) cell some can apart =
    let less = length-without items cell can in let one = one-last cell (length items) can in omega (arith, less, one)
units_of-without (Table pairs default) (cells.Key key) some can apart = units-without key pairs apart some
units_of-without (Table pairs default) cells.Default some can apart = absurd (true≢false (sym can))
units_of-without (Table pairs default) (cells.Prop n) some can apart = absurd (true≢false (sym can))
units_of-without (Table pairs default) (cells.Elem n) some can apart = absurd (true≢false (sym can))

-- only entries have ticks
untimed : (p : Present) → is_held (Some p) ≡ true → tick_behind (Some p) ≡ 0
untimed (presents.Value None value) form = refl
untimed (presents.Value (Some tick) value) form = absurd (true≢false (sym form))
untimed (presents.Supers supers) form = absurd (true≢false (sym form))

pub no-tick-prop : (cell : Cell) (o : Option Present) → is_prop cell ≡ true → IsTrue (is_form cell o) → tick_behind o ≡ 0
no-tick-prop (cells.Prop n) None can form = refl
no-tick-prop (cells.Prop n) (Some p) can form = untimed p form
no-tick-prop (cells.Elem n) o can form = absurd (true≢false (sym can))
no-tick-prop (cells.Key key) o can form = absurd (true≢false (sym can))
no-tick-prop cells.Default o can form = absurd (true≢false (sym can))

pub no-tick-element : (cell : Cell) (o : Option Present) → is_element cell ≡ true → IsTrue (is_form cell o) → tick_behind o ≡ 0
no-tick-element (cells.Elem n) None can form = refl
no-tick-element (cells.Elem n) (Some p) can form = untimed p form
no-tick-element (cells.Prop n) o can form = absurd (true≢false (sym can))
no-tick-element (cells.Key key) o can form = absurd (true≢false (sym can))
no-tick-element cells.Default o can form = absurd (true≢false (sym can))

-- a table has its default, and can have each key
pub table-default : (o : Option Value) → IsSome (option_and_then entries_in o) → IsSome (holder_at o cells.Default)
table-default None some = absurd (true≢false (sym some))
table-default (Some (Tads supers class props)) some = absurd (true≢false (sym some))
table-default (Some (Text bytes)) some = absurd (true≢false (sym some))
table-default (Some (Items items)) some = absurd (true≢false (sym some))
table-default (Some (Vector items)) some = absurd (true≢false (sym some))
table-default (Some (Table pairs default)) some = refl

pub table-key : (o : Option Value) (key : Key) → IsSome (option_and_then entries_in o) → IsTrue (can_have_at o (cells.Key key))
table-key None key some = absurd (true≢false (sym some))
table-key (Some (Tads supers class props)) key some = absurd (true≢false (sym some))
table-key (Some (Text bytes)) key some = absurd (true≢false (sym some))
table-key (Some (Items items)) key some = absurd (true≢false (sym some))
table-key (Some (Vector items)) key some = absurd (true≢false (sym some))
table-key (Some (Table pairs default)) key some = refl
