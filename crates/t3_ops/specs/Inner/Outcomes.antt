-- What the code's outcomes are, and what its writes leave.
use Rattle.std.specs.Prelude.{◌≡◌, Bool, true, false, Option, None, Some, Result, Ok, Err}
use Rattle.t3_store.specs.Value.{new_value}
use Rattle.t3_store.specs.Store.{StoreValue}
use Rattle.t3_ops.specs.declared.fault.Fault.{Fault as FaultName}
use Rattle.t3_ops.specs.declared.outcome.Outcome.{Outcome}
use Rattle.t3_ops.specs.declared.outcome.Outcome.TheVariants as outcomes
use Rattle.t3_ops.specs.Making.{Made, AsIs, New, CanBeCreated}

abbrev pub made_of : Outcome → Result Made FaultName
made_of (outcomes.Value value) = Ok (AsIs value)
made_of (outcomes.Object what) = Ok (New (new_value what))
made_of (outcomes.Fault fault) = Err fault

abbrev pub CanBeMade : Outcome → Type 0
CanBeMade (outcomes.Object what) = CanBeCreated what
CanBeMade (outcomes.Value value) = Unit {0}
CanBeMade (outcomes.Fault fault) = Unit {0}

-- a cell was set, or there was no room for it
abbrev pub IsWritten : StoreValue → Option StoreValue → Bool → StoreValue → Type 0
IsWritten old after true new = after ≡ Some new
IsWritten old after false new = (after ≡ None) × (new ≡ old)
