-- A fault is answered only where the device has counted one.
use Rattle.std.specs.Prelude.{◌≡◌, ℕ, ◌<◌, Result, Ok, Err}
use Rattle.t3_io.specs.declared.refusal.DeviceRefusal.{DeviceRefusal}
use Rattle.t3_io.specs.declared.refusal.DeviceRefusal.TheVariants.{Fault, NoMemory}

-- a fault raises the count, and every other answer leaves it
abbrev pub MovesFaults : {T : Type 0} → ℕ → ℕ → Result T DeviceRefusal → Type 0
MovesFaults before after (Ok _) = after ≡ before
MovesFaults before after (Err Fault) = before < after
MovesFaults before after (Err NoMemory) = after ≡ before
