-- The code's rows of objects as the lists that definitions speak of, and what the functions answer that make them.
use Rattle.std.specs.Prelude.{◌≡◌, ℕ, List, Option, None, Some, nat_eq, option_map, slice_get}
use Rattle.std.specs.List.{IsDistinct}
use Rattle.std.specs.Global.{Vec}
use Rattle.t3_load.specs.ImageObjects.{object_numbers}
use Rattle.t3_load.specs.declared.standing.StaticObject.{StaticObject}
use Rattle.t3_load.specs.declared.objects.ImageObject.{ImageObject}
use Rattle.t3_load.specs.declared.objects.Tried.{Tried}
use Rattle.t3_load.specs.declared.objects.Tried.TheVariants as tried
use Rattle.t3_load.specs.declared.kinds.KindEntry.{KindEntry}
use Rattle.t3_load.specs.declared.kinds.MetaKind.{MetaKind}
use Rattle.t3_load.specs.Statics.{StaticValue, IsObjectOf, AreObjectsOf}
use Rattle.t3_pools.specs.First.{IsFirst}
use Rattle.t3_load.specs.Rules.{IsFirstTwice}

abbrev pub static_of : StaticObject → StaticValue
static_of static = record {
  number = static.number;
  metaclass = static.metaclass;
  transient = static.transient;
  bytes = static.bytes.now;
}

-- these are the numbers of the objects, no two the same
pub record HasNumbers (numbers : List ℕ) (objects : List ImageObject) : Type 0 where
  pub are : numbers ≡ object_numbers objects
  pub distinct : IsDistinct nat_eq numbers

-- the metaclass of an index in a table
abbrev pub entry_kind_at : List KindEntry → ℕ → Option MetaKind
entry_kind_at kinds index = option_map (λ entry. entry.kind) (slice_get kinds index)

-- all the numbers, which are distinct; or the first that stands a second time
abbrev pub TakesNumbers : {Set : Type 0} → (Set → List ℕ) → List ℕ → Tried Set → Type 0
TakesNumbers keys numbers (tried.Good set) = (keys set ≡ numbers) × IsDistinct nat_eq numbers
TakesNumbers keys numbers (tried.Bad number) = IsFirstTwice numbers number

-- the objects to be made; or the number of the first that stands there of which there is none
abbrev pub TakesObjects : (ℕ → Option MetaKind) → List StaticValue → Tried (Vec ImageObject) → Type 0
TakesObjects kind statics (tried.Good objects) = AreObjectsOf kind statics objects.items
TakesObjects kind statics (tried.Bad number) =
    (static : StaticValue) × (static.number ≡ number) × IsFirst (λ s. (object : ImageObject) → ¬ IsObjectOf kind s object) statics static

-- the object to be made of one that stands in an image; or there is none
abbrev pub GivesObjectOf : (ℕ → Option MetaKind) → StaticValue → Option ImageObject → Type 0
GivesObjectOf kind static None = (object : ImageObject) → ¬ IsObjectOf kind static object
GivesObjectOf kind static (Some object) = IsObjectOf kind static object
