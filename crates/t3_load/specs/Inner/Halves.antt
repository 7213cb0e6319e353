-- What is known of the objects of an image that keeps its rules, and of the halves that are made of them.
use Rattle.std.specs.Prelude.{◌≡◌, ◌+◌, ◌<◌, ◌^◌, Bool, true, false, None, List, length}
use Rattle.std.specs.List.{All}
use Rattle.std.specs.FinMap.{get, len}
use Rattle.t3_store.specs.Value.{Objects, units_in, units_of, is_past, HasFittingLength}
use Rattle.t3_store.specs.declared.limits.StoreRefusal.{StoreRefusal}
use Rattle.t3_store.specs.declared.limits.StoreRefusal.TheVariants as store
use Rattle.t3_load.specs.declared.refusal.LoadRefusal.{LoadRefusal}
use Rattle.t3_load.specs.declared.refusal.LoadRefusal.TheVariants as refusals
use Rattle.t3_load.specs.declared.objects.ImageObject.{ImageObject}
use Rattle.t3_store.specs.Whole.{IsAcyclic}
use Rattle.t3_load.specs.Rules.{first_by}
use Rattle.t3_load.specs.ImageObjects.{value_of, units_together, IsHalf, supers_by, lacks_super, has_transient_super}

-- an object has a number that a persistent one may have, and no more bytes or elements than an object may have
pub record IsMade (object : ImageObject) : Type 0 where
  pub above : 0 < object.number
  pub below : object.number < 2 ^ 31
  pub fits : HasFittingLength (value_of object)

abbrev pub AreMade : List ImageObject → Type 0
AreMade objects = All IsMade objects

-- each has its superclasses among them, none is its own ancestor, and none that is persistent has a transient superclass
pub record IsWhole (objects : List ImageObject) : Type 0 where
  pub there : first_by (lacks_super objects) objects ≡ None
  pub acyclic : IsAcyclic (supers_by objects)
  pub persistent : first_by (has_transient_super objects) objects ≡ None

-- one of two halves: that of the persistent objects, or that of the transient ones
abbrev pub half_of : Objects → Objects → Bool → Objects
half_of first passing false = first
half_of first passing true = passing

-- the two halves of some objects, which have as many objects and units together
pub record AreHalves (objects : List ImageObject) (first passing : Objects) : Type 0 where
  pub each : (transient : Bool) → IsHalf transient objects (half_of first passing transient)
  pub count : len first + len passing ≡ length objects
  pub units : units_in first + units_in passing ≡ units_together objects

-- an object can be added to a half: no object of it has its number, and there is room
pub record CanAdd (object : ImageObject) (half : Objects) : Type 0 where
  pub made : IsMade object
  pub new : get half object.number ≡ None
  pub room : is_past half (units_of (value_of object)) ≡ false

-- a refusal of the store, as one of the loader
abbrev pub refusal_by_store : StoreRefusal → LoadRefusal
refusal_by_store store.Full = refusals.Full
refusal_by_store store.NoMemory = refusals.NoMemory
