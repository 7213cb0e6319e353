-- Reading from left to right: what is read, and the bytes after it; or nothing, where nothing is spelled.
use Rattle.std.specs.Prelude.{◌≡◌, ◌==◌, ℕ, zero, suc, map, ◌^◌, ◌&&◌, not, Bool, true, false, List, [], ◌∷◌, length, take, drop, Option, Some, None, Result, Ok, Err, nat_lt, if◌then◌else◌}
use Rattle.std.specs.Int.{w32, cast_signed}
use Rattle.std.specs.Str.{is_utf8}
use Rattle.t3_holder.specs.NumberText.{value_of}
use Rattle.t3_holder.specs.declared.holder.Holder.{Holder}
use Rattle.t3_holder.specs.declared.holder.Holder.TheVariants as holders
use Rattle.t3_undo.specs.declared.key.Key.{Key}
use Rattle.t3_undo.specs.declared.key.Key.TheVariants as keys
use Rattle.t3_tadsobj.specs.declared.props.PropValue.{PropValue}
use Rattle.t3_tables.specs.declared.pair.Pair.{Pair}
use Rattle.std.specs.FinMap.{from_entries}
use Rattle.std.specs.List.{list_any}
use Rattle.std.specs.Ordering.{eq_by_cmp}
use Rattle.t3_undo.specs.Key.{key_cmp}
use Rattle.t3_store.specs.Value.{Value, Tads, Text, Items, Vector, Table}
use Rattle.t3_tadsobj.specs.Props.{pair_of}
use Rattle.t3_snapshot.specs.Layout.{keys_of}
use Rattle.t3_snapshot.specs.declared.read_error.ReadError.{ReadError}
use Rattle.t3_snapshot.specs.declared.read_error.ReadError.TheVariants as errors

-- what a reader gives to the next one
infixl 10 ◌>>=◌
abbrev pub ◌>>=◌ : {A B : Type 0} → Option A → (A → Option B) → Option B
None >>= f = None
(Some x) >>= f = f x

-- what a function stopped by says of what reading gives
abbrev pub Stops : {Y : Type 0} → ReadError → Option Y → Type 0
Stops errors.NoMemory read = Unit {0}
Stops errors.Misspelled read = read ≡ None

-- what a function returned, seen by view, is what reading gives, unless memory ran out
abbrev pub Gives : {X Y : Type 0} → (X → Y) → Result X ReadError → Option Y → Type 0
Gives view (Ok x) read = read ≡ Some (view x)
Gives view (Err stop) read = Stops stop read

-- a number in so many bytes
abbrev pub number_at : ℕ → List ℕ → Option (ℕ × List ℕ)
number_at width bytes = if nat_lt (length bytes) width then None else Some (value_of (take width bytes), drop width bytes)

-- where nothing else is said
abbrev pub where_none : ℕ → Holder → Option Holder
where_none bits holder = if bits == 0 then Some holder else None

-- a number that isn't 0, and is below the bound
abbrev pub where_numbered : ℕ → ℕ → Holder → Option Holder
where_numbered bound bits holder = if nat_lt 0 bits && nat_lt bits bound then Some holder else None

-- the holder of a type and a value, where those are its
unfoldable pub holder_from : ℕ → ℕ → Option Holder
holder_from tag bits =
    if tag == 1 then where_none bits holders.Nil else (
    if tag == 2 then where_none bits holders.True else (
    if tag == 5 then where_numbered (2 ^ 32) bits (holders.Obj bits) else (
    if tag == 6 then where_numbered (2 ^ 16) bits (holders.Prop bits) else (
    if tag == 7 then Some (holders.Int (cast_signed w32 bits)) else (
    if tag == 8 then Some (holders.Text bits) else (
    if tag == 9 then Some (holders.Shown bits) else (
    if tag == 10 then Some (holders.List bits) else (
    if tag == 11 then Some (holders.Code bits) else (
    if tag == 12 then Some (holders.Func bits) else (
    if tag == 15 then Some (holders.Enum bits) else None))))))))))

-- a byte
abbrev pub byte_at : List ℕ → Option (ℕ × List ℕ)
byte_at [] = None
byte_at (byte ∷ bytes) = Some (byte, bytes)

-- a holder
unfoldable pub holder_at : List ℕ → Option (Holder × List ℕ)
holder_at bytes = do
  tag ← byte_at bytes
  value ← number_at 4 tag.1
  holder ← holder_from tag.0 value.0
  Some (holder, value.1)

-- so many bytes
unfoldable pub front_at : ℕ → List ℕ → Option (List ℕ × List ℕ)
front_at count bytes = if nat_lt (length bytes) count then None else Some (take count bytes, drop count bytes)

-- a text
unfoldable pub text_at : List ℕ → Option (List ℕ × List ℕ)
text_at bytes = do
  count ← number_at 2 bytes
  front ← front_at count.0 count.1
  if is_utf8 front.0 then Some front else None

-- the key that is said by a holder
abbrev pub key_of_holder : Holder → Option Key
key_of_holder holders.Nil = Some keys.Nil
key_of_holder holders.True = Some keys.True
key_of_holder (holders.Int number) = Some (keys.Int number)
key_of_holder (holders.Enum number) = Some (keys.Enum number)
key_of_holder (holders.Prop number) = Some (keys.Prop number)
key_of_holder (holders.Obj number) = Some (keys.Obj number)
key_of_holder (holders.Func address) = Some (keys.Func address)
key_of_holder (holders.Text _) = None
key_of_holder (holders.Shown _) = None
key_of_holder (holders.List _) = None
key_of_holder (holders.Code _) = None

-- a key of the tag
unfoldable pub key_by : ℕ → List ℕ → Option (Key × List ℕ)
key_by zero bytes = do
  holder ← holder_at bytes
  key ← key_of_holder holder.0
  Some (key, holder.1)
key_by (suc zero) bytes = do
  text ← text_at bytes
  Some (keys.Text text.0, text.1)
key_by (suc (suc _)) bytes = None

-- a key: its tag, and what the tag announces
unfoldable pub key_at : List ℕ → Option (Key × List ℕ)
key_at bytes = do
  tag ← byte_at bytes
  key_by tag.0 tag.1

-- an entry of a table
unfoldable pub entry_at : List ℕ → Option (Pair × List ℕ)
entry_at bytes = do
  key ← key_at bytes
  value ← holder_at key.1
  Some (record { key = key.0; value = value.0 }, value.1)

-- so many items
unfoldable pub items_at : {Item : Type 0} → (List ℕ → Option (Item × List ℕ)) → ℕ → List ℕ → Option (List Item × List ℕ)
items_at item_at zero bytes = Some ([], bytes)
items_at item_at (suc count) bytes = do
  first ← item_at bytes
  others ← items_at item_at count first.1
  Some (first.0 ∷ others.0, others.1)

-- a count in so many bytes, and so many items
unfoldable pub counted_at : {Item : Type 0} → (List ℕ → Option (Item × List ℕ)) → ℕ → List ℕ → Option (List Item × List ℕ)
counted_at item_at width bytes = do
  count ← number_at width bytes
  items_at item_at count.0 count.1

-- whether no key stands twice
abbrev pub are_distinct : List Key → Bool
are_distinct [] = true
are_distinct (key ∷ keys) = not (list_any (λ other. eq_by_cmp key_cmp key other) keys) && are_distinct keys

-- 0 or 1 where the flags of a tads-object are
abbrev pub class_from : ℕ → Option Bool
class_from zero = Some false
class_from (suc zero) = Some true
class_from (suc (suc _)) = None

-- whether a tads-object is a class
unfoldable pub class_at : List ℕ → Option (Bool × List ℕ)
class_at bytes = do
  flags ← number_at 2 bytes
  class ← class_from flags.0
  Some (class, flags.1)

-- a property
unfoldable pub prop_at : List ℕ → Option (PropValue × List ℕ)
prop_at bytes = do
  number ← number_at 2 bytes
  value ← holder_at number.1
  Some (record { number = number.0; value = value.0 }, value.1)

-- whether numbers rise from above this one on
abbrev pub are_rising : ℕ → List PropValue → Bool
are_rising last [] = true
are_rising last (prop ∷ props) = nat_lt last prop.number && are_rising prop.number props

-- what comes after the kind of a tads-object
unfoldable pub tads_at : List ℕ → Option (Value × List ℕ)
tads_at bytes = do
  class ← class_at bytes
  supers ← counted_at (number_at 4) 2 class.1
  props ← counted_at prop_at 2 supers.1
  if are_rising 0 props.0 then Some (Tads supers.0 class.0 (from_entries (map pair_of props.0)), props.1) else None

-- of a table
unfoldable pub table_at : List ℕ → Option (Value × List ℕ)
table_at bytes = do
  default ← holder_at bytes
  pairs ← counted_at entry_at 4 default.1
  if are_distinct (keys_of pairs.0) then Some (Table pairs.0 default.0, pairs.1) else None

-- of a string
unfoldable pub string_at : List ℕ → Option (Value × List ℕ)
string_at bytes = do
  text ← text_at bytes
  Some (Text text.0, text.1)

-- of a list
unfoldable pub list_at : List ℕ → Option (Value × List ℕ)
list_at bytes = do
  items ← counted_at holder_at 2 bytes
  Some (Items items.0, items.1)

-- of a vector
unfoldable pub vector_at : List ℕ → Option (Value × List ℕ)
vector_at bytes = do
  items ← counted_at holder_at 2 bytes
  Some (Vector items.0, items.1)

-- the value of a kind
unfoldable pub value_by : ℕ → List ℕ → Option (Value × List ℕ)
value_by kind bytes =
    if kind == 1 then tads_at bytes else (
    if kind == 2 then string_at bytes else (
    if kind == 3 then list_at bytes else (
    if kind == 4 then vector_at bytes else (
    if kind == 5 then table_at bytes else None))))

-- a value: its kind, and what the kind announces
unfoldable pub value_at : List ℕ → Option (Value × List ℕ)
value_at bytes = do
  kind ← byte_at bytes
  value_by kind.0 kind.1

-- an object in turn
unfoldable pub object_at : ℕ → ℕ → List ℕ → Option ((ℕ × Value) × List ℕ)
object_at last next bytes = do
  number ← number_at 4 bytes
  value ← value_at number.1
  if nat_lt last number.0 && nat_lt number.0 next then Some ((number.0, value.0), value.1) else None
