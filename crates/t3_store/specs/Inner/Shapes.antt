-- Objects as what never changes of each, its shape, and its parts; and what value that is.
use Rattle.std.specs.Prelude.{◌≡◌, ◌≤◌, ℕ, zero, suc, Bool, false, List, [], ◌∷◌, ◌++◌, length, Option, None, Some, map, option_map, nat_lt, refl}
use Rattle.std.specs.Ordering.{nat_cmp}
use Rattle.std.specs.FinMap.{FinMap, empty, get, insert, contains_key, retain_keys, entries, from_entries, code as coded_map}
use Rattle.std.specs.Borrow.{Bor}
use Rattle.std.specs.Coded.{Coded, code_by, coded×, coded_ℕ, coded_bool, coded_list}
use Rattle.t3_undo.specs.Content.{Parts, Places, places_for, coded_parts, coded_places, coded_holder}
use Rattle.t3_undo.specs.Present.{Present}
use Rattle.t3_undo.specs.Content as content
use Rattle.t3_undo.specs.Objects.{Objects, set_at, set_cell, adjust}
use Rattle.t3_undo.specs.Stamps.{Stamps}
use Rattle.t3_undo.specs.declared.cell.Cell.{Cell}
use Rattle.t3_undo.specs.declared.cell.Cell.TheVariants as cells
use Rattle.t3_holder.specs.declared.holder.Holder.{Holder}
use Rattle.t3_tadsobj.specs.Object.{props_of}
use Rattle.t3_tadsobj.specs.Object as Tadsobject
use Rattle.t3_lists.specs.Vector.{items_of}
use Rattle.t3_lists.specs.Vector as vectors
use Rattle.t3_tables.specs.Table.{entries_of, tick_after}
use Rattle.t3_tables.specs.Table as tables
use Rattle.t3_tables.specs.Entries.{default_of}
use Rattle.t3_undo.specs.Present as presents
use Rattle.t3_store.specs.Value.{Value, Tads, Text, Items, Vector, Table}
use Rattle.t3_store.specs.declared.object.Object.{Object}
use Rattle.t3_store.specs.declared.object.Object.TheVariants as object

-- an object's kind, with what never changes of it
pub data Shape : Type 0 where
  TadsShape : (supers : List ℕ) (class : Bool) → Shape
  TextShape : (bytes : List ℕ) → Shape
  ItemsShape : (items : List Holder) → Shape
  VectorShape : Shape
  TableShape : Shape

-- an object as its shape and its parts
abbrev pub thing_of : Object → Shape × Parts
thing_of (object.Tads o) = (TadsShape o.supers o.class, o.parts)
thing_of (object.Text t) = (TextShape t, empty)
thing_of (object.List l) = (ItemsShape l, empty)
thing_of (object.Vector v) = (VectorShape, vectors.parts_of v)
thing_of (object.Table t) = (TableShape, tables.parts_of t.value)

-- the places of an object
abbrev pub places_of : Object → Places
places_of (object.Tads o) = o.places
places_of (object.Text t) = empty
places_of (object.List l) = empty
places_of (object.Vector v) = vectors.places_of v
places_of (object.Table t) = tables.places_of t.value

-- an object has a place for each present cell, with stamp 0, and no other
abbrev pub HasFreshPlaces : Object → Type 0
HasFreshPlaces object = places_of object ≡ places_for (thing_of object).1

-- a table's next tick, and 0 of other objects
abbrev pub tick_of : Object → ℕ
tick_of (object.Tads o) = 0
tick_of (object.Text t) = 0
tick_of (object.List l) = 0
tick_of (object.Vector v) = 0
tick_of (object.Table t) = t.value.next_tick

abbrev pub value_by : Shape → Parts → Value
value_by (TadsShape supers class) parts = Tads supers class (props_of parts)
value_by (TextShape bytes) parts = Text bytes
value_by (ItemsShape items) parts = Items items
value_by VectorShape parts = Vector (items_of parts)
value_by TableShape parts = Table (entries_of parts) (default_of parts)

-- the value of an object
abbrev pub value_of : Shape × Parts → Value
value_of thing = value_by thing.0 thing.1

-- the value of what stands under a number
abbrev pub value_under : Option (Bor Object) → Option Value
value_under object = option_map (λ o. value_of (thing_of o.now)) object

-- the values of objects
unfoldable pub values : Objects Shape → FinMap nat_cmp Value
values things = from_entries (map (λ e. (e.0, value_of e.1)) (entries things))

abbrev Coding : Type 0
Coding = ℕ × (List ℕ × (Bool × List Holder))

abbrev to_code : Shape → Coding
to_code (TadsShape supers class) = (0, (supers, (class, [])))
to_code (TextShape bytes) = (1, (bytes, (false, [])))
to_code (ItemsShape items) = (2, ([], (false, items)))
to_code VectorShape = (3, ([], (false, [])))
to_code TableShape = (4, ([], (false, [])))

abbrev shape_from : ℕ → List ℕ × (Bool × List Holder) → Shape
shape_from zero c = TadsShape c.0 c.1.0
shape_from (suc zero) c = TextShape c.0
shape_from (suc (suc zero)) c = ItemsShape c.1.1
shape_from (suc (suc (suc zero))) c = VectorShape
shape_from (suc (suc (suc (suc _)))) c = TableShape

abbrev from_code : Coding → Shape
from_code c = shape_from c.0 c.1

pub from_code-to_code : (s : Shape) → from_code (to_code s) ≡ s
from_code-to_code (TadsShape supers class) = refl
from_code-to_code (TextShape bytes) = refl
from_code-to_code (ItemsShape items) = refl
from_code-to_code VectorShape = refl
from_code-to_code TableShape = refl

abbrev pub coded_shape : Coded Shape
coded_shape =
    code_by Coding (coded× coded_ℕ (coded× (coded_list coded_ℕ) (coded× coded_bool (coded_list coded_holder)))) to_code from_code
    from_code-to_code

-- objects by their numbers, of each its places, and its next tick
pub record Stored : Type 0 where
  pub objects : Objects Shape
  pub places : FinMap nat_cmp Places
  pub ticks : FinMap nat_cmp ℕ

abbrev pub coded_stored : Coded Stored
coded_stored =
    code_by (Objects Shape × (FinMap nat_cmp Places × FinMap nat_cmp ℕ))
    (coded× (coded_map coded_ℕ (coded× coded_shape coded_parts)) (coded× (coded_map coded_ℕ coded_places) (coded_map coded_ℕ coded_ℕ)))
    (λ s. (s.objects, (s.places, s.ticks))) (λ t. record { objects = t.0; places = t.1.0; ticks = t.1.1 }) (λ _. refl)

abbrev pub has_place_in : Option Places → Cell → Bool
has_place_in None cell = false
has_place_in (Some places) cell = contains_key places cell

-- whether the object of that number has a place for the cell
abbrev pub has_place : FinMap nat_cmp Places → ℕ → Cell → Bool
has_place places number cell = has_place_in (get places number) cell

-- the places with one for the cell, if there is the object: a new one has stamp 0
abbrev pub with_place : ℕ → Cell → FinMap nat_cmp Places → FinMap nat_cmp Places
with_place number cell places = adjust places number (λ own. content.with_place own cell)

-- the stamp of a cell's place among those of an object, if it has one
abbrev pub stamp_in : Option Places → Cell → Option ℕ
stamp_in None cell = None
stamp_in (Some places) cell = get places cell

-- the stamp of the place of a cell of an object, if it has one
abbrev pub stamp_at : FinMap nat_cmp Places → Stamps
stamp_at places = λ number cell. stamp_in (get places number) cell

-- the places with another stamp for a cell of an object
abbrev pub with_place_stamp : ℕ → Cell → ℕ → FinMap nat_cmp Places → FinMap nat_cmp Places
with_place_stamp number cell stamp places = adjust places number (λ own. insert own cell stamp)

-- the places of an object all have stamp 0
abbrev pub HasZeroStamps : Places → Type 0
HasZeroStamps own = (cell : Cell) (stamp : ℕ) → get own cell ≡ Some stamp → stamp ≡ 0

-- and so have those of objects
abbrev pub HaveZeroStamps : FinMap nat_cmp Places → Type 0
HaveZeroStamps places = (number : ℕ) (own : Places) → get places number ≡ Some own → HasZeroStamps own

-- the places of objects numbered below
abbrev pub places_below : ℕ → FinMap nat_cmp Places → FinMap nat_cmp Places
places_below next places = retain_keys places (λ number. nat_lt number next)

-- the ticks of objects numbered below
abbrev pub ticks_below : ℕ → FinMap nat_cmp ℕ → FinMap nat_cmp ℕ
ticks_below next ticks = retain_keys ticks (λ number. nat_lt number next)

-- a tick above that of a content, 0 where it has none
abbrev pub tick_behind : Option Present → ℕ
tick_behind content = tick_after 0 content

-- none of these is above the bound
abbrev pub AreWithin : ℕ → FinMap nat_cmp ℕ → Type 0
AreWithin bound ticks = (number tick : ℕ) → get ticks number ≡ Some tick → tick ≤ bound

-- one cell of one object was set or taken away, which changes its value so
pub record IsChanged (old new : Stored) (number : ℕ) (cell : Cell) (change : Value → Value) : Type 0 where
  pub content : Option Present
  pub objects : new.objects ≡ set_cell old.objects number cell content
  pub places : new.places ≡ old.places
  pub values : values new.objects ≡ adjust (values old.objects) number change

-- a tads-object has a property more, or another value for it, in a place with stamp 0
pub record IsWithProp (old new : Tadsobject.Tads) (number : ℕ) (value : Holder) : Type 0 where
  pub props : props_of new.parts ≡ insert (props_of old.parts) number value
  pub supers : new.supers ≡ old.supers
  pub class : new.class ≡ old.class
  pub parts : new.parts ≡ set_at old.parts (cells.Prop number) (Some (presents.Value None value))
  pub places : new.places ≡ insert old.places (cells.Prop number) 0

-- a vector of these parts has so many elements, and none is missing
pub record HasElements (parts : Parts) (number : ℕ) : Type 0 where
  pub items : List Holder
  pub are : parts ≡ vectors.filled items
  pub count : length items ≡ number

-- a vector has an element more
abbrev pub IsWithElement : Parts → Parts → ℕ → Holder → Type 0
IsWithElement old new count value =
    (items : List Holder) → old ≡ vectors.filled items → length items ≡ count → new ≡ vectors.filled (items ++ value ∷ [])
