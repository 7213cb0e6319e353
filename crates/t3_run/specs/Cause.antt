-- A fault of a run is answered only where that device has counted one.
use Rattle.std.specs.Prelude.{◌≡◌, ℕ, ◌<◌, Result, Ok, Err}
use Rattle.t3_io.specs.declared.refusal.DeviceRefusal.{DeviceRefusal}
use Rattle.t3_io.specs.declared.refusal.DeviceRefusal.TheVariants.{Fault, NoMemory}
use Rattle.t3_run.specs.declared.refusal.RunRefusal.{RunRefusal}
use Rattle.t3_run.specs.declared.refusal.RunRefusal.TheVariants as refusals

-- what a depot's and a console's refusal are told as
abbrev pub depot_refusal : DeviceRefusal → RunRefusal
depot_refusal Fault = refusals.DepotFault
depot_refusal NoMemory = refusals.NoMemory

abbrev pub console_refusal : DeviceRefusal → RunRefusal
console_refusal Fault = refusals.ConsoleFault
console_refusal NoMemory = refusals.NoMemory

-- a depot's fault raises its count, and every other answer leaves it
abbrev pub MovesDepotFaults : {T : Type 0} → ℕ → ℕ → Result T RunRefusal → Type 0
MovesDepotFaults before after (Ok _) = after ≡ before
MovesDepotFaults before after (Err refusals.DepotFault) = before < after
MovesDepotFaults before after (Err refusals.ConsoleFault) = after ≡ before
MovesDepotFaults before after (Err refusals.NoMemory) = after ≡ before

-- the same of a console's
abbrev pub MovesConsoleFaults : {T : Type 0} → ℕ → ℕ → Result T RunRefusal → Type 0
MovesConsoleFaults before after (Ok _) = after ≡ before
MovesConsoleFaults before after (Err refusals.DepotFault) = after ≡ before
MovesConsoleFaults before after (Err refusals.ConsoleFault) = before < after
MovesConsoleFaults before after (Err refusals.NoMemory) = after ≡ before

-- whether the depot faulted, as a run, the depot and the console tell it
abbrev pub IsDepotFault : RunRefusal → Type 0
IsDepotFault refusal = refusal ≡ refusals.DepotFault

abbrev pub IsFault : DeviceRefusal → Type 0
IsFault refusal = refusal ≡ Fault

abbrev pub IsNoDepotFault : DeviceRefusal → Type 0
IsNoDepotFault refusal = ⊥
