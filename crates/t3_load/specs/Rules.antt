-- The rules that an image keeps of which a program can be made, in their order.
use Rattle.std.specs.Prelude.{◌≡◌, ◌≢◌, ℕ, ◌<◌, ◌≤◌, ◌^◌, ◌&&◌, Bool, not, nat_lt, IsTrue, List, [], ◌∷◌, ◌++◌, Option, Some, length, option_map, nat_eq, Contains}
use Rattle.std.specs.List.{find, list_any, IsDistinct}
use Rattle.t3_image_read.specs.declared.image.PlacedBlock.{PlacedBlock}
use Rattle.t3_pools.specs.Building.{Refuses as PoolsRefuse}
use Rattle.t3_pools.specs.First.{IsFirst}
use Rattle.t3_pools.specs.declared.refusal.PoolRefusal.TheVariants as pools
use Rattle.t3_store.specs.declared.limits.StoreLimits.{StoreLimits}
use Rattle.t3_load.specs.Statics.{static_numbers}
use Rattle.t3_load.specs.declared.refusal.LoadRefusal.{LoadRefusal}
use Rattle.t3_load.specs.declared.refusal.LoadRefusal.TheVariants.{NoEntry, TwoEntries, HeaderSizes, Pool, Metaclass, FunctionSet, ObjectNumber, ObjectTwice, ObjectData, SuperMissing, SuperCycle, TransientSuper, Full, NoMemory}
use Rattle.t3_load.specs.declared.objects.ImageObject.{ImageObject}
use Rattle.t3_load.specs.Entries.{entries, has_sizes}
use Rattle.t3_load.specs.Names.{metas_in, names_in, unknown_from}
use Rattle.t3_load.specs.Kinds.{kind_entry_of}
use Rattle.t3_load.specs.Sets.{set_named}
use Rattle.t3_load.specs.Statics.{StaticValue, statics_in, kind_at, IsObjectOf, AreObjectsOf}
use Rattle.t3_load.specs.ImageObjects.{lacks_super, has_transient_super, IsOwnAncestor, is_past}

-- the first number that stands a second time
pub record IsFirstTwice (numbers : List ℕ) (number : ℕ) : Type 0 where
  pub before : List ℕ
  pub after : List ℕ
  pub is : numbers ≡ before ++ number ∷ after
  pub distinct : IsDistinct nat_eq before
  pub twice : Contains before number

-- the number of a persistent object is from 1 on and below 2^31; an image brings transient ones under such numbers too
abbrev pub is_object_number : ℕ → Bool
is_object_number number = nat_lt 0 number && nat_lt number (2 ^ 31)

-- the first number that is none of an object
abbrev pub first_bad : List StaticValue → Option ℕ
first_bad statics = option_map (λ static. static.number) (find (λ static. not (is_object_number static.number)) statics)

-- the objects of an image, of which each is one as its bytes say
abbrev pub AreObjectsIn : List PlacedBlock → List ImageObject → Type 0
AreObjectsIn blocks objects = AreObjectsOf (kind_at (metas_in blocks)) (statics_in blocks) objects

-- bytes that begin with no object of the metaclass
abbrev pub IsNoObject : List PlacedBlock → StaticValue → Type 0
IsNoObject blocks static = (object : ImageObject) → ¬ IsObjectOf (kind_at (metas_in blocks)) static object

-- the number of the first object for which a test holds
abbrev pub first_by : (ImageObject → Bool) → List ImageObject → Option ℕ
first_by test objects = option_map (λ object. object.number) (find test objects)

-- of the objects of the image this holds
pub record OfObjects (blocks : List PlacedBlock) (Holds : List ImageObject → Type 0) : Type 0 where
  pub objects : List ImageObject
  pub are : AreObjectsIn blocks objects
  pub holds : Holds objects

-- the rule that a refusal names is broken, at the first place where it is
abbrev pub Breaks : List PlacedBlock → StoreLimits → LoadRefusal → Type 0
Breaks blocks limits NoEntry = entries blocks ≡ []
Breaks blocks limits TwoEntries = 2 ≤ length (entries blocks)
Breaks blocks limits HeaderSizes = IsTrue (list_any (λ entry. not (has_sizes entry)) (entries blocks))
Breaks blocks limits (Pool why) = (why ≢ pools.NoMemory) × PoolsRefuse why blocks
Breaks blocks limits (Metaclass index) = unknown_from kind_entry_of 0 (metas_in blocks) ≡ Some index
Breaks blocks limits (FunctionSet index) = unknown_from set_named 0 (names_in blocks) ≡ Some index
Breaks blocks limits (ObjectNumber number) = first_bad (statics_in blocks) ≡ Some number
Breaks blocks limits (ObjectTwice number) = IsFirstTwice (static_numbers (statics_in blocks)) number
Breaks blocks limits (ObjectData number) =
    (static : StaticValue) × (static.number ≡ number) × IsFirst (IsNoObject blocks) (statics_in blocks) static
Breaks blocks limits (SuperMissing number) = OfObjects blocks (λ objects. first_by (lacks_super objects) objects ≡ Some number)
Breaks blocks limits (SuperCycle number) = OfObjects blocks (λ objects.
    (object : ImageObject) × (object.number ≡ number) × IsFirst (IsOwnAncestor objects) objects object)
Breaks blocks limits (TransientSuper number) = OfObjects blocks (λ objects. first_by (has_transient_super objects) objects ≡ Some number)
Breaks blocks limits Full = OfObjects blocks (λ objects. IsTrue (is_past limits objects))
Breaks blocks limits NoMemory = ⊥

-- the rules in their order, from 1 on
abbrev pub rule_of : LoadRefusal → ℕ
rule_of NoEntry = 1
rule_of TwoEntries = 2
rule_of HeaderSizes = 3
rule_of (Pool _) = 4
rule_of (Metaclass _) = 5
rule_of (FunctionSet _) = 6
rule_of (ObjectNumber _) = 7
rule_of (ObjectTwice _) = 8
rule_of (ObjectData _) = 9
rule_of (SuperMissing _) = 10
rule_of (SuperCycle _) = 11
rule_of (TransientSuper _) = 12
rule_of Full = 13
rule_of NoMemory = 14

-- an image keeps the rules from one on and before another
abbrev pub KeepsRules : List PlacedBlock → StoreLimits → ℕ → ℕ → Type 0
KeepsRules blocks limits from until =
    (why : LoadRefusal) → from ≤ rule_of why → rule_of why < until → ¬ Breaks blocks limits why
