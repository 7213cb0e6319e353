-- The parts of a saved state, from the value to the bytes: holders, texts, keys, entries, properties, values, objects; and which
-- of them can be spelled.
use Rattle.std.specs.Prelude.{◌<◌, ◌^◌, ℕ, Bool, true, false, List, [], ◌∷◌, ◌++◌, length, map}
use Rattle.std.specs.List.{flat_map, AllByRecursion, IsDistinct}
use Rattle.std.specs.Str.{IsUtf8}
use Rattle.t3_holder.specs.NumberText.{little_endian}
use Rattle.t3_holder.specs.HolderText.{raw_text, tag_of, bits_of, IsHolder, IsGood}
use Rattle.t3_holder.specs.declared.holder.Holder.{Holder}
use Rattle.t3_holder.specs.declared.holder.Holder.TheVariants as holders
use Rattle.t3_undo.specs.declared.key.Key.{Key}
use Rattle.t3_undo.specs.declared.key.Key.TheVariants as keys
use Rattle.t3_tables.specs.declared.pair.Pair.{Pair}
use Rattle.t3_undo.specs.Key.{key_cmp}
use Rattle.std.specs.Ordering.{eq_by_cmp}
use Rattle.std.specs.FinMap.{entries}
use Rattle.t3_store.specs.Value.{Value, Tads, Text, Items, Vector, Table}

-- a holder in five bytes, those that its type doesn't use 0
unfoldable pub holder_text : Holder → List ℕ
holder_text holder = raw_text (record { tag = tag_of holder; bits = bits_of holder })

-- its number fits, and no object and no property has the number 0
pub record IsGoodHolder (holder : Holder) : Type 0 where
  pub fits : IsHolder holder
  pub good : IsGood holder

-- length-prefixed bytes, the length in two bytes
unfoldable pub bytes_text : List ℕ → List ℕ
bytes_text bytes = little_endian 2 (length bytes) ++ bytes

-- the length fits, and the bytes are UTF-8
pub record IsText (bytes : List ℕ) : Type 0 where
  pub few : length bytes < 2 ^ 16
  pub utf8 : IsUtf8 bytes

-- a key that isn't a text, as a holder
abbrev pub holder_of_key : Key → Holder
holder_of_key keys.Nil = holders.Nil
holder_of_key keys.True = holders.True
holder_of_key (keys.Int number) = holders.Int number
holder_of_key (keys.Enum number) = holders.Enum number
holder_of_key (keys.Prop number) = holders.Prop number
holder_of_key (keys.Func address) = holders.Func address
holder_of_key (keys.Obj number) = holders.Obj number
holder_of_key (keys.Text bytes) = holders.Nil

-- a key: 0 and a holder, or 1 and a text
unfoldable pub key_text : Key → List ℕ
key_text (keys.Text bytes) = 1 ∷ bytes_text bytes
key_text key = 0 ∷ holder_text (holder_of_key key)

-- what it is made of can be spelled
abbrev pub IsKey : Key → Type 0
IsKey (keys.Text bytes) = IsText bytes
IsKey key = IsGoodHolder (holder_of_key key)

-- an entry of a table: its key and its value
unfoldable pub entry_text : Pair → List ℕ
entry_text pair = key_text pair.key ++ holder_text pair.value

-- its key and its value can be spelled
pub record IsEntry (pair : Pair) : Type 0 where
  pub key : IsKey pair.key
  pub value : IsGoodHolder pair.value

-- ---- objects

-- the number of a superclass
unfoldable pub super_text : ℕ → List ℕ
super_text number = little_endian 4 number

-- a property: its number and its value
unfoldable pub prop_text : ℕ × Holder → List ℕ
prop_text prop = little_endian 2 prop.0 ++ holder_text prop.1

-- its number isn't 0 and fits, and its value can be spelled
pub record IsProp (prop : ℕ × Holder) : Type 0 where
  pub named : 0 < prop.0
  pub fits : prop.0 < 2 ^ 16
  pub value : IsGoodHolder prop.1

-- a count in so many bytes, and the texts of so many items
unfoldable pub counted_text : {Item : Type 0} → ℕ → (Item → List ℕ) → List Item → List ℕ
counted_text width item_text items = little_endian width (length items) ++ flat_map item_text items

-- their count fits, and so does each
pub record AreCounted {Item : Type 0} (width : ℕ) (Fits : Item → Type 0) (items : List Item) : Type 0 where
  pub few : length items < 256 ^ width
  pub each : AllByRecursion Fits items

-- the flags of a tads-object: 1 where it is a class, else 0
abbrev pub class_flag : Bool → ℕ
class_flag true = 1
class_flag false = 0

unfoldable pub class_text : Bool → List ℕ
class_text class = little_endian 2 (class_flag class)

-- a value: its kind, and its parts
unfoldable pub value_text : Value → List ℕ
value_text (Tads supers class props) =
    1 ∷ class_text class ++ (counted_text 2 super_text supers ++ counted_text 2 prop_text (entries props))
value_text (Text bytes) = 2 ∷ bytes_text bytes
value_text (Items items) = 3 ∷ counted_text 2 holder_text items
value_text (Vector items) = 4 ∷ counted_text 2 holder_text items
value_text (Table pairs default) = 5 ∷ holder_text default ++ counted_text 4 entry_text pairs

-- the keys of a table
abbrev pub keys_of : List Pair → List Key
keys_of pairs = map (λ pair. pair.key) pairs

-- no key stands twice
abbrev pub HasDistinctKeys : List Pair → Type 0
HasDistinctKeys pairs = IsDistinct (eq_by_cmp key_cmp) (keys_of pairs)

-- what has a text: every number and length fits its field, no object and no property has the number 0, texts are UTF-8, and
-- keys are distinct
abbrev pub IsSpellable : Value → Type 0
IsSpellable (Tads supers class props) = AreCounted 2 (λ number. number < 2 ^ 32) supers × AreCounted 2 IsProp (entries props)
IsSpellable (Text bytes) = IsText bytes
IsSpellable (Items items) = AreCounted 2 IsGoodHolder items
IsSpellable (Vector items) = AreCounted 2 IsGoodHolder items
IsSpellable (Table pairs default) = IsGoodHolder default × AreCounted 4 IsEntry pairs × HasDistinctKeys pairs

-- an object: its number and its value
unfoldable pub object_text : ℕ × Value → List ℕ
object_text object = little_endian 4 object.0 ++ value_text object.1

-- numbers rise from above the last one on, and are below the next one; and each object has a text
abbrev pub AreInTurn : ℕ → ℕ → List (ℕ × Value) → Type 0
AreInTurn last next [] = Unit {0}
AreInTurn last next (object ∷ objects) =
    (last < object.0) × (object.0 < next) × IsSpellable object.1 × AreInTurn object.0 next objects
