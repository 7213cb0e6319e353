-- Properties of holders that all values of a run have, if those have them that its program holds.
use Rattle.std.specs.Prelude.{◌≡◌, ◌<◌, ◌^◌, ℕ, ℤ, List, [], Some, Result, Ok, Err, FitsSigned}
use Rattle.std.specs.Int.{w32}
use Rattle.std.specs.List.{AllByRecursion}
use Rattle.t3_holder.specs.declared.holder.Holder.{Holder}
use Rattle.t3_holder.specs.declared.holder.Holder.TheVariants as holders
use Rattle.t3_pools.specs.Pool.{Pool}
use Rattle.t3_pools.specs.Constants.{list_in, IsOfBytes}
use Rattle.t3_ops.specs.declared.fault.Fault.{Fault}
use Rattle.t3_store.specs.Value.{Value}
use Rattle.t3_snapshot.specs.State.{named_as_keys}
use Rattle.t3_snapshot.specs.Good.{HasGoodParts}

-- a property of holders that those have which are made of nothing: nil, true, integers, and references to objects; a text has it that is
-- said where what has it is evaluated; and an integer or a property that has it is one
pub record IsClosed (Good : Holder → Type 0) : Type 0 where
  pub nil : Good holders.Nil
  pub true : Good holders.True
  pub integer : (z : ℤ) → FitsSigned w32 z → Good (holders.Int z)
  pub object : (number : ℕ) → 0 < number → number < 2 ^ 32 → Good (holders.Obj number)
  pub shown : (address : ℕ) → Good (holders.Shown address) → Good (holders.Text address)
  pub integers : (z : ℤ) → Good (holders.Int z) → FitsSigned w32 z
  pub property : (number : ℕ) → Good (holders.Prop number) → (0 < number) × (number < 2 ^ 16)

-- what a constant list lists that has it has it too, and the pool's bytes are bytes
pub record HasGoodConstants (Good : Holder → Type 0) (constants : Pool) : Type 0 where
  pub lists : (address : ℕ) (items : List Holder) → Good (holders.List address) → list_in constants address ≡ Some items
      → AllByRecursion Good items
  pub bytes : IsOfBytes constants

-- of a value that is made: it has no keys that name objects
pub record IsGoodNew (Good : Holder → Type 0) (value : Value) : Type 0 where
  pub parts : HasGoodParts Good value
  pub keyless : named_as_keys value ≡ []

-- what is answered has it, where that is no fault
abbrev pub IsGoodResult : {A : Type 0} → (A → Type 0) → Result A Fault → Type 0
IsGoodResult Good (Ok value) = Good value
IsGoodResult Good (Err fault) = Unit {0}
