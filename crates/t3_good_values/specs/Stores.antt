-- What holds of a store whose values have it, now and in what an undo puts back.
use Rattle.std.specs.Prelude.{◌≡◌, ◌<◌, ◌≤◌, ◌^◌, ◌⊎◌, ℕ, Some, None, Option}
use Rattle.std.specs.List.{AllByRecursion}
use Rattle.std.specs.FinMap.{get}
use Rattle.t3_holder.specs.declared.holder.Holder.{Holder}
use Rattle.t3_undo.specs.declared.cell.Cell.{Cell}
use Rattle.t3_undo.specs.declared.cell.Cell.TheVariants as cells
use Rattle.t3_undo.specs.declared.key.Key.{Key}
use Rattle.t3_ops.specs.Making.{Made, AsIs, New}
use Rattle.t3_kinds.specs.Changes.{Change, Makes, Sets, Deed}
use Rattle.t3_store.specs.Value.{Value, Objects}
use Rattle.t3_store.specs.Store.{StoreValue, Mark}
use Rattle.t3_store.specs.Invariant.{HoldsOfEach}
use Rattle.t3_snapshot.specs.Savable.{IsHeldKey}
use Rattle.t3_snapshot.specs.State.{named_by_key}
use Rattle.t3_snapshot.specs.Good.{IsGoodKey, HasGoodParts, AreGoodObjects}
use Rattle.t3_good_values.specs.Values.{IsGoodNew}

-- of a savepoint's copy, with the number that was next then
pub record IsGoodMark (Good : Holder → Type 0) (next : ℕ) (mark : Mark) : Type 0 where
  pub older : mark.next ≤ next
  pub copy : AreGoodObjects Good mark.next mark.copy

-- transient objects: their numbers are an image's, or are given from 2^31 on
pub record ArePassing (Good : Holder → Type 0) (next next_transient : ℕ) (objects : Objects) : Type 0 where
  pub parts : HoldsOfEach (HasGoodParts Good) objects
  pub numbered : (number : ℕ) (value : Value) → get objects number ≡ Some value
      → (0 < number) × ((number < next) ⊎ ((2 ^ 31 ≤ number) × (number < next_transient)))

pub record IsGoodStore (Good : Holder → Type 0) (s : StoreValue) : Type 0 where
  pub persistent : AreGoodObjects Good s.next s.persistent
  pub transient : ArePassing Good s.next s.next_transient s.transient
  pub next : (0 < s.next) × (s.next ≤ 2 ^ 31)
  pub next_transient : (2 ^ 31 ≤ s.next_transient) × (s.next_transient ≤ 2 ^ 32)
  pub marks : AllByRecursion (IsGoodMark Good s.next) s.marks

-- ---- what is set

-- a key that can stand in a table of these objects
pub record IsGoodKeyIn (Good : Holder → Type 0) (s : StoreValue) (key : Key) : Type 0 where
  pub good : IsGoodKey Good key
  pub held : AllByRecursion (IsHeldKey s.next s.persistent) (named_by_key key)

-- a cell that can be set
abbrev pub IsGoodCell : (Holder → Type 0) → StoreValue → Cell → Type 0
IsGoodCell Good s (cells.Prop number) = (0 < number) × (number < 2 ^ 16)
IsGoodCell Good s (cells.Elem number) = Unit {0}
IsGoodCell Good s (cells.Key key) = IsGoodKeyIn Good s key
IsGoodCell Good s cells.Default = Unit {0}

-- ---- what operations and methods come to

-- a value, or that of an object that is made
abbrev pub IsGoodMade : (Holder → Type 0) → Made → Type 0
IsGoodMade Good (AsIs value) = Good value
IsGoodMade Good (New object) = IsGoodNew Good object

-- a change: no method sets a key
abbrev pub IsGoodSet : (Holder → Type 0) → Cell → Option Holder → Type 0
IsGoodSet Good cell None = Unit {0}
IsGoodSet Good (cells.Prop number) (Some value) = (0 < number) × (number < 2 ^ 16) × Good value
IsGoodSet Good (cells.Elem number) (Some value) = Good value
IsGoodSet Good (cells.Key key) (Some value) = ⊥
IsGoodSet Good cells.Default (Some value) = Good value

abbrev pub IsGoodChange : (Holder → Type 0) → Change → Type 0
IsGoodChange Good (Makes value) = IsGoodNew Good value
IsGoodChange Good (Sets number cell value) = IsGoodSet Good cell value

pub record IsGoodDeed (Good : Holder → Type 0) (deed : Deed) : Type 0 where
  pub changes : AllByRecursion (IsGoodChange Good) deed.changes
  pub answer : Good deed.answer
