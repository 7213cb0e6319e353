-- What a read of a file at a place does to the buffer.
use Rattle.std.specs.Prelude.{◌≡◌, ℕ, ◌≤◌, ◌<◌, List, length, take, drop, Option, Some, None, Result, Ok, Err}
use Rattle.std.specs.FinMap.{get}
use Rattle.t3_io.specs.Files.{Files}
use Rattle.t3_io.specs.declared.depot.Got.{Got}
use Rattle.t3_io.specs.declared.depot.Got.TheVariants.{Absent, Count}
use Rattle.t3_io.specs.declared.refusal.DeviceRefusal.{DeviceRefusal}

-- the first bytes of the buffer are now those of the file from `at` on, so many as the count says; the rest of the buffer is anything
pub record Copies (file : List ℕ) (at : ℕ) (buffer : List ℕ) (count : ℕ) : Type 0 where
  pub fits : count ≤ length buffer
  pub there : count ≤ length (drop at file)
  pub copied : take count buffer ≡ take count (drop at file)
  -- only where the file ends at or before `at` does a read of some bytes give none
  pub ended : 0 < length buffer → count ≡ 0 → length file ≤ at

-- `Absent` where the file isn't there, and else its bytes
abbrev pub ReadsFile : Option (List ℕ) → ℕ → List ℕ → Got → Type 0
ReadsFile None at buffer Absent = Unit {0}
ReadsFile None at buffer (Count count) = ⊥
ReadsFile (Some file) at buffer Absent = ⊥
ReadsFile (Some file) at buffer (Count count) = Copies file at buffer count

-- nothing is claimed of a device that doesn't tell its files, nor of the buffer after a refusal
abbrev pub Reads : Option Files → List ℕ → ℕ → List ℕ → Result Got DeviceRefusal → Type 0
Reads None name at buffer answer = Unit {0}
Reads (Some files) name at buffer (Err _) = Unit {0}
Reads (Some files) name at buffer (Ok got) = ReadsFile (get files name) at buffer got

-- a count of bytes is no more than there is room for
abbrev pub IsAtMost : ℕ → Got → Type 0
IsAtMost room Absent = Unit {0}
IsAtMost room (Count count) = count ≤ room
