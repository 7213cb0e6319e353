-- How the objects of an image stand in bytes, from the value to the bytes (the chapter on the image format).
use Rattle.std.specs.Prelude.{◌≡◌, ℕ, ◌^◌, ◌<◌, ◌==◌, Bool, List, [], ◌∷◌, ◌++◌, map, length, nat_eq, Option, None, Some, Result, Ok, Err}
use Rattle.std.specs.Int.{bit_at}
use Rattle.std.specs.List.{IsDistinct}
use Rattle.std.specs.Str.{IsUtf8}
use Rattle.t3_holder.specs.NumberText.{little_endian}
use Rattle.t3_holder.specs.HolderText.{raw_text, IsRaw, Means}
use Rattle.t3_holder.specs.declared.holder.Raw.{Raw}
use Rattle.t3_holder.specs.declared.holder.Holder.{Holder}
use Rattle.t3_holder.specs.declared.no_memory.NoMemory.{NoMemory}
use Rattle.t3_store.specs.declared.new_object.NewObject.{NewObject}
use Rattle.t3_store.specs.declared.new_object.NewObject.TheVariants as new
use Rattle.t3_tadsobj.specs.declared.props.PropValue.{PropValue}
use Rattle.t3_load.specs.declared.kinds.MetaKind.{MetaKind}
use Rattle.t3_load.specs.declared.kinds.MetaKind.TheVariants as kinds

-- ---- items

-- the number of an object: four bytes
pub record SpellsNumber (number : ℕ) (bytes : List ℕ) : Type 0 where
  pub fits : number < 2 ^ 32
  pub text : bytes ≡ little_endian 4 number

-- a holder: five bytes that mean it
pub record SpellsHolder (holder : Holder) (bytes : List ℕ) : Type 0 where
  pub raw : Raw
  pub fits : IsRaw raw
  pub means : Means raw holder
  pub text : bytes ≡ raw_text raw

-- a property: its number, which isn't 0, and its value
pub record SpellsProp (prop : PropValue) (bytes : List ℕ) : Type 0 where
  pub fits : prop.number < 2 ^ 16
  pub named : 0 < prop.number
  pub value : List ℕ
  pub holder : SpellsHolder prop.value value
  pub text : bytes ≡ little_endian 2 prop.number ++ value

-- bytes begin with items of so many bytes each, and this is the rest
abbrev pub BeginsRow : {Item : Type 0} → ℕ → (Item → List ℕ → Type 0) → List Item → List ℕ → List ℕ → Type 0
BeginsRow width Spells [] bytes rest = bytes ≡ rest
BeginsRow width Spells (item ∷ items) bytes rest =
    (front : List ℕ) × (behind : List ℕ) × (length front ≡ width) × (Spells item front) × (bytes ≡ front ++ behind)
    × (BeginsRow width Spells items behind rest)

-- ---- objects, and how bytes begin with them; what comes behind isn't looked at

-- how many superclasses and properties a tads-object has, and its flags
abbrev pub tads_head : ℕ → ℕ → ℕ → List ℕ
tads_head supers props flags = little_endian 2 supers ++ (little_endian 2 props ++ little_endian 2 flags)

-- a tads-object: its head, its superclasses and its properties, no two of one number; it is a class by the lowest bit of its flags
pub record BeginsTads (supers : List ℕ) (class : Bool) (props : List PropValue) (bytes : List ℕ) : Type 0 where
  pub flags : ℕ
  pub flags_fit : flags < 2 ^ 16
  pub class_is : class ≡ (bit_at flags 0 == 1)
  pub few_supers : length supers < 2 ^ 16
  pub few_props : length props < 2 ^ 16
  pub distinct : IsDistinct nat_eq (map (λ prop. prop.number) props)
  pub after_head : List ℕ
  pub after_supers : List ℕ
  pub rest : List ℕ
  pub head : bytes ≡ tads_head (length supers) (length props) flags ++ after_head
  pub has_supers : BeginsRow 4 SpellsNumber supers after_head after_supers
  pub has_props : BeginsRow 7 SpellsProp props after_supers rest

-- a string: its length, and its bytes, which are UTF-8
pub record BeginsText (text bytes : List ℕ) : Type 0 where
  pub few : length text < 2 ^ 16
  pub utf8 : IsUtf8 text
  pub rest : List ℕ
  pub is : bytes ≡ little_endian 2 (length text) ++ (text ++ rest)

-- a list: its count, and its holders
pub record BeginsList (items : List Holder) (bytes : List ℕ) : Type 0 where
  pub few : length items < 2 ^ 16
  pub after_count : List ℕ
  pub rest : List ℕ
  pub count : bytes ≡ little_endian 2 (length items) ++ after_count
  pub has_items : BeginsRow 5 SpellsHolder items after_count rest

-- a vector: for how many elements it has room, and then as a list
pub record BeginsVector (items : List Holder) (bytes : List ℕ) : Type 0 where
  pub allocated : ℕ
  pub fits : allocated < 2 ^ 16
  pub after_room : List ℕ
  pub room : bytes ≡ little_endian 2 allocated ++ after_room
  pub listed : BeginsList items after_room

-- bytes begin with an object of a metaclass
abbrev pub BeginsObject : MetaKind → NewObject → List ℕ → Type 0
BeginsObject kinds.Tads (new.Tads supers class props) bytes = BeginsTads supers class props bytes
BeginsObject kinds.Text (new.Text text) bytes = BeginsText text bytes
BeginsObject kinds.List (new.List items) bytes = BeginsList items bytes
BeginsObject kinds.Vector (new.Vector items) bytes = BeginsVector items bytes
BeginsObject _ _ bytes = ⊥

-- the object of a metaclass with which bytes begin; or they begin with none; memory may always be wanting
abbrev pub GivesObject : MetaKind → List ℕ → Result (Option NewObject) NoMemory → Type 0
GivesObject kind bytes (Ok None) = (object : NewObject) → ¬ BeginsObject kind object bytes
GivesObject kind bytes (Ok (Some object)) = BeginsObject kind object bytes
GivesObject kind bytes (Err _) = Unit {0}
