-- What the functions give that take objects from bytes, as functions on lists: what bytes begin with, and the rest of them. What they
-- read is what the layouts spell, and nothing else.
use Rattle.std.specs.Prelude.{◌≡◌, ℕ, zero, suc, ◌==◌, ◌&&◌, Bool, true, not, nat_lt, nat_le, nat_eq, List, [], ◌∷◌, length, map, take, drop, Option, None, Some, option_and_then, if◌then◌else◌}
use Rattle.std.specs.Int.{bit_at}
use Rattle.std.specs.List.{list_any, list_all}
use Rattle.t3_holder.specs.NumberText.{value_of}
use Rattle.t3_holder.specs.declared.holder.Holder.{Holder}
use Rattle.t3_pools.specs.Constants.{as_utf8, meaning_of}
use Rattle.t3_store.specs.declared.new_object.NewObject.{NewObject}
use Rattle.t3_store.specs.declared.new_object.NewObject.TheVariants as new
use Rattle.t3_tadsobj.specs.declared.props.PropValue.{PropValue}
use Rattle.t3_load.specs.declared.kinds.MetaKind.{MetaKind}
use Rattle.t3_load.specs.declared.kinds.MetaKind.TheVariants as kinds
use Rattle.t3_load.specs.declared.statics.TadsHead.{TadsHead}

-- what a function returned, seen so, is what is read
abbrev pub Gives : {X Y : Type 0} → (X → Y) → Option X → Option Y → Type 0
Gives view None read = read ≡ None
Gives view (Some x) read = read ≡ Some (view x)

infixl 10 ◌>>=◌
abbrev ◌>>=◌ : {A B : Type 0} → Option A → (A → Option B) → Option B
found >>= next = option_and_then next found

-- ---- items, each in all of its bytes

abbrev pub is_byte : ℕ → Bool
is_byte n = nat_lt n 256

-- a number in so many bytes
unfoldable pub number_read : ℕ → List ℕ → Option ℕ
number_read width bytes = if (length bytes == width) && list_all is_byte bytes then Some (value_of bytes) else None

-- what a holder's type and value mean
unfoldable pub holder_read : List ℕ → Option Holder
holder_read [] = None
holder_read (tag ∷ bytes) = do
  bits ← number_read 4 bytes
  if is_byte tag then meaning_of tag bits else None

-- a property's number, which isn't 0, and its value
unfoldable pub prop_read : List ℕ → Option PropValue
prop_read bytes = do
  number ← number_read 2 (take 2 bytes)
  if nat_lt 0 number then option_and_then (λ value. Some (record { number = number; value = value })) (holder_read (drop 2 bytes)) else None

-- ---- in front of bytes, with the rest

-- an item of so many bytes
unfoldable pub front_read : {Item : Type 0} → ℕ → (List ℕ → Option Item) → List ℕ → Option (Item × List ℕ)
front_read width read bytes =
    if nat_le width (length bytes) then option_and_then (λ item. Some (item, drop width bytes)) (read (take width bytes)) else None

-- so many items
unfoldable pub row_read : {Item : Type 0} → ℕ → (List ℕ → Option Item) → ℕ → List ℕ → Option (List Item × List ℕ)
row_read width read zero bytes = Some ([], bytes)
row_read width read (suc count) bytes = do
  first ← front_read width read bytes
  row ← row_read width read count first.1
  Some (first.0 ∷ row.0, row.1)

-- a number of two bytes
abbrev pub count_read : List ℕ → Option (ℕ × List ℕ)
count_read bytes = front_read 2 (number_read 2) bytes

-- the head of a tads-object
unfoldable pub head_read : List ℕ → Option (TadsHead × List ℕ)
head_read bytes = do
  supers ← count_read bytes
  props ← count_read supers.1
  flags ← count_read props.1
  Some (record { supers = supers.0; props = props.0; flags = flags.0 }, flags.1)

-- ---- objects; what comes behind isn't looked at

abbrev pub are_distinct : List ℕ → Bool
are_distinct [] = true
are_distinct (n ∷ ns) = not (list_any (nat_eq n) ns) && are_distinct ns

-- a tads-object: its superclasses, whether it is a class, and its properties
unfoldable pub tads_read : List ℕ → Option (List ℕ × Bool × List PropValue)
tads_read bytes = do
  head ← head_read bytes
  supers ← row_read 4 (number_read 4) head.0.supers head.1
  props ← row_read 7 prop_read head.0.props supers.1
  if are_distinct (map (λ prop. prop.number) props.0) then Some (supers.0, bit_at head.0.flags 0 == 1, props.0) else None

unfoldable pub text_read : List ℕ → Option (List ℕ)
text_read bytes = do
  count ← count_read bytes
  text ← front_read count.0 as_utf8 count.1
  Some text.0

unfoldable pub list_read : List ℕ → Option (List Holder)
list_read bytes = do
  count ← count_read bytes
  row ← row_read 5 holder_read count.0 count.1
  Some row.0

unfoldable pub vector_read : List ℕ → Option (List Holder)
vector_read bytes = do
  allocated ← count_read bytes
  list_read allocated.1

-- the object of a metaclass
abbrev pub object_read : MetaKind → List ℕ → Option NewObject
object_read kinds.Tads bytes = option_and_then (λ tads. Some (new.Tads tads.0 tads.1 tads.2)) (tads_read bytes)
object_read kinds.Text bytes = option_and_then (λ text. Some (new.Text text)) (text_read bytes)
object_read kinds.List bytes = option_and_then (λ items. Some (new.List items)) (list_read bytes)
object_read kinds.Vector bytes = option_and_then (λ items. Some (new.Vector items)) (vector_read bytes)
object_read _ bytes = None
