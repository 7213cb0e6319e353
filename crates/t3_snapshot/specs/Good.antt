-- Objects all of whose holders have a property, as references and properties that don't have the number 0, and which of them can be saved.
use Rattle.std.specs.Prelude.{◌≡◌, ◌<◌, ◌^◌, ℕ, List, Some, length}
use Rattle.std.specs.List.{AllByRecursion}
use Rattle.std.specs.FinMap.{get}
use Rattle.t3_holder.specs.declared.holder.Holder.{Holder}
use Rattle.t3_holder.specs.declared.holder.Holder.TheVariants as holders
use Rattle.t3_undo.specs.declared.key.Key.{Key}
use Rattle.t3_undo.specs.declared.key.Key.TheVariants as keys
use Rattle.t3_tables.specs.declared.pair.Pair.{Pair}
use Rattle.t3_store.specs.Value.{Value, Objects, Tads, Text, Items, Vector, Table}
use Rattle.t3_tadsobj.specs.Props.{PropMap}
use Rattle.t3_store.specs.Invariant.{HoldsOfEach}
use Rattle.t3_snapshot.specs.Layout.{IsText, holder_of_key}
use Rattle.t3_snapshot.specs.State.{named_as_keys}
use Rattle.t3_snapshot.specs.Savable.{IsHeldKey}

-- a key: a text in UTF-8 that a string can have, or what has the property as a holder
abbrev pub IsGoodKey : (Holder → Type 0) → Key → Type 0
IsGoodKey Good (keys.Text bytes) = IsText bytes
IsGoodKey Good key = Good (holder_of_key key)

pub record IsGoodPair (Good : Holder → Type 0) (pair : Pair) : Type 0 where
  pub key : IsGoodKey Good pair.key
  pub value : Good pair.value

-- a number can be a property's, and its value has it
pub record IsGoodProp (Good : Holder → Type 0) (number : ℕ) (holder : Holder) : Type 0 where
  pub named : 0 < number
  pub fits : number < 2 ^ 16
  pub value : Good holder

abbrev pub HasGoodProps : (Holder → Type 0) → PropMap → Type 0
HasGoodProps Good props = (number : ℕ) (value : Holder) → get props number ≡ Some value → IsGoodProp Good number value

-- references to superclasses, whose count has 16 bits
pub record AreGoodSupers (Good : Holder → Type 0) (supers : List ℕ) : Type 0 where
  pub few : length supers < 2 ^ 16
  pub each : AllByRecursion (λ number. Good (holders.Obj number)) supers

pub record IsGoodTable (Good : Holder → Type 0) (entries : List Pair) (otherwise : Holder) : Type 0 where
  pub pairs : AllByRecursion (IsGoodPair Good) entries
  pub default : Good otherwise

-- all that a value is made of
abbrev pub HasGoodParts : (Holder → Type 0) → Value → Type 0
HasGoodParts Good (Tads supers class props) = AreGoodSupers Good supers × HasGoodProps Good props
HasGoodParts Good (Text bytes) = IsText bytes
HasGoodParts Good (Items items) = AllByRecursion Good items
HasGoodParts Good (Vector items) = AllByRecursion Good items
HasGoodParts Good (Table pairs default) = IsGoodTable Good pairs default

-- ---- objects

-- each object has a number from 1 on, below the next one
abbrev pub AreNumbered : ℕ → Objects → Type 0
AreNumbered next objects = (number : ℕ) (value : Value) → get objects number ≡ Some value → (0 < number) × (number < next)

-- what the keys of these objects name was given, and is none of them that can be no key
abbrev pub HasHeldKeys : ℕ → Objects → Type 0
HasHeldKeys next objects =
    (number : ℕ) (value : Value) → get objects number ≡ Some value → AllByRecursion (IsHeldKey next objects) (named_as_keys value)

-- persistent objects that can be saved with this next number, as far as values say that
pub record AreGoodObjects (Good : Holder → Type 0) (next : ℕ) (objects : Objects) : Type 0 where
  pub parts : HoldsOfEach (HasGoodParts Good) objects
  pub numbered : AreNumbered next objects
  pub keys : HasHeldKeys next objects
