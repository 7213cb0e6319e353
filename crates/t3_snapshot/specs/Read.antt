-- What bytes spell of an image's states, if anything.
use Rattle.std.specs.Prelude.{ℕ, List, Option, Some, None}
use Rattle.t3_store.specs.Value.{Objects}
use Rattle.t3_snapshot.specs.State.{Spells}

-- what bytes spell of an image's states: a state with its next number, or none
abbrev pub IsRead : List ℕ → List ℕ → Option (Objects × ℕ) → Type 0
IsRead fingerprint bytes (Some read) = Spells read.0 read.1 fingerprint bytes
IsRead fingerprint bytes None = (state : Objects) (next : ℕ) → ¬ Spells state next fingerprint bytes
