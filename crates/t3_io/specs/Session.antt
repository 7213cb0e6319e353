-- What a console has taken and shown.
use Rattle.std.specs.Prelude.{◌≡◌, ℕ, ◌≤◌, ◌<◌, List, [], ◌∷◌, ◌++◌, length, take, drop, Option, Some, None, Result, Ok, Err}
use Rattle.t3_io.specs.declared.refusal.DeviceRefusal.{DeviceRefusal}

-- the input that isn't taken yet, all that was shown, and of each read that was answered, oldest first, how long these two were before it
pub record Session : Type 0 where
  pub left : List ℕ
  pub shown : List ℕ
  pub asked : List (ℕ × ℕ)

-- a session in which nothing was done yet
abbrev pub new_session : List ℕ → Session
new_session input = record { left = input; shown = []; asked = [] }

-- the session after more was shown
abbrev pub after_showing : Session → List ℕ → Session
after_showing before text = record before { shown = before.shown ++ text }

-- the first bytes of the piece are shown, so many as the count says; a refusal shows nothing
abbrev pub ShowsPiece : Option Session → Option Session → List ℕ → Result ℕ DeviceRefusal → Type 0
ShowsPiece None after piece answer = Unit {0}
ShowsPiece (Some before) after piece (Ok count) = after ≡ Some (after_showing before (take count piece))
ShowsPiece (Some before) after piece (Err _) = after ≡ Some before

-- the session after a read that took so many bytes
abbrev pub after_reading : Session → ℕ → Session
after_reading before count = record {
  left = drop count before.left;
  shown = before.shown;
  asked = before.asked ++ (length before.left, length before.shown) ∷ [];
}

-- the first bytes of the input are taken, and are now those of the buffer, so many as the count says; the rest of the buffer is anything
pub record TakesInput (before : Session) (after : Option Session) (buffer : List ℕ) (count : ℕ) : Type 0 where
  pub there : count ≤ length before.left
  pub copied : take count buffer ≡ take count before.left
  -- only at the end of the input does a read of some bytes give none
  pub ended : 0 < length buffer → count ≡ 0 → before.left ≡ []
  pub after_is : after ≡ Some (after_reading before count)

-- a read takes its bytes, and a refusal takes none; nothing is claimed of the buffer after a refusal
abbrev pub TakesPiece : Option Session → Option Session → List ℕ → Result ℕ DeviceRefusal → Type 0
TakesPiece None after buffer answer = Unit {0}
TakesPiece (Some before) after buffer (Ok count) = TakesInput before after buffer count
TakesPiece (Some before) after buffer (Err _) = after ≡ Some before

-- of so many bytes no more are taken, and at least one where there is one
pub record IsProgress (length count : ℕ) : Type 0 where
  pub within : count ≤ length
  pub some : 0 < length → 0 < count
