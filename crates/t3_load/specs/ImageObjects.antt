-- Objects of an image among each other: their superclasses, and how much they are together.
use Rattle.std.specs.Prelude.{map, ◌||◌, nat_lt, length, ◌≡◌, ℕ, ◌&&◌, Bool, false, not, List, [], Option, None, Some, is_none, nat_eq, option_and_then, sum_by, Contains}
use Rattle.std.specs.List.{find, list_any}
use Rattle.std.specs.FinMap.{get}
use Rattle.t3_tadsobj.specs.Order.{SupersAt, IsAncestor}
use Rattle.t3_store.specs.Value.{Value, Objects, supers_of, units_of, new_value}
use Rattle.t3_store.specs.declared.limits.StoreLimits.{StoreLimits}
use Rattle.t3_load.specs.declared.objects.ImageObject.{ImageObject}

abbrev pub value_of : ImageObject → Value
value_of object = new_value object.object

-- their numbers
abbrev pub object_numbers : List ImageObject → List ℕ
object_numbers objects = map (λ object. object.number) objects

-- the object of a number
abbrev pub object_of : List ImageObject → ℕ → Option ImageObject
object_of objects number = find (λ object. nat_eq number object.number) objects

-- the superclasses of each tads-object
abbrev pub supers_by : List ImageObject → SupersAt
supers_by objects number = option_and_then (λ object. supers_of (value_of object)) (object_of objects number)

abbrev pub or_none : Option (List ℕ) → List ℕ
or_none None = []
or_none (Some supers) = supers

abbrev pub superclasses : ImageObject → List ℕ
superclasses object = or_none (supers_of (value_of object))

-- a superclass is no tads-object of the image
abbrev pub lacks_super : List ImageObject → ImageObject → Bool
lacks_super objects object = list_any (λ super. is_none (supers_by objects super)) (superclasses object)

abbrev pub flag_or_false : Option ImageObject → Bool
flag_or_false None = false
flag_or_false (Some object) = object.transient

abbrev pub is_transient_at : List ImageObject → ℕ → Bool
is_transient_at objects number = flag_or_false (object_of objects number)

-- it is persistent, and a superclass is transient
abbrev pub has_transient_super : List ImageObject → ImageObject → Bool
has_transient_super objects object = not object.transient && list_any (is_transient_at objects) (superclasses object)

-- it is its own ancestor
abbrev pub IsOwnAncestor : List ImageObject → ImageObject → Type 0
IsOwnAncestor objects object = IsAncestor (supers_by objects) object.number object.number

abbrev pub units_together : List ImageObject → ℕ
units_together objects = sum_by (λ object. units_of (value_of object)) objects

-- the objects or their units pass the limits
abbrev pub is_past : StoreLimits → List ImageObject → Bool
is_past limits objects = nat_lt limits.objects (length objects) || nat_lt limits.units (units_together objects)

-- an object of these has the number and the value, and is in that half
pub record IsAmong (transient : Bool) (objects : List ImageObject) (number : ℕ) (value : Value) : Type 0 where
  pub object : ImageObject
  pub among : Contains objects object
  pub numbered : object.number ≡ number
  pub half : object.transient ≡ transient
  pub is : value_of object ≡ value

-- a map holds just the objects of one half
pub record IsHalf (transient : Bool) (objects : List ImageObject) (half : Objects) : Type 0 where
  pub holds : (number : ℕ) (value : Value) → IsAmong transient objects number value → get half number ≡ Some value
  pub only : (number : ℕ) (value : Value) → get half number ≡ Some value → IsAmong transient objects number value
