-- What is read of a depot's file: all of it up to a limit, or a piece.
use Rattle.std.specs.Prelude.{◌≡◌, ◌≢◌, ℕ, ◌≤◌, List, length, take, drop, Option, Some, None, Result, Ok, Err}
use Rattle.std.specs.FinMap.{get}
use Rattle.std.specs.Option.{option_map}
use Rattle.std.specs.Global.{Vec}
use Rattle.std.specs.Vec.{vec_items}
use Rattle.t3_io.specs.Files.{Files}
use Rattle.t3_io.specs.declared.depot.Got.{Got}
use Rattle.t3_io.specs.declared.depot.Got.TheVariants as got
use Rattle.t3_io.specs.declared.refusal.DeviceRefusal.{DeviceRefusal}

-- so much of a file is read: one byte more than an image or a saved state may have
abbrev pub read_limit : ℕ
read_limit = 268435457

abbrev pub read_bytes : List ℕ → List ℕ
read_bytes file = take read_limit file

-- all bytes that are read of a file, if it is there
abbrev pub ReadsFile : Option Files → List ℕ → Result (Option (Vec ℕ)) DeviceRefusal → Type 0
ReadsFile None name answer = Unit {0}
ReadsFile (Some files) name (Err _) = Unit {0}
ReadsFile (Some files) name (Ok found) = option_map vec_items found ≡ option_map read_bytes (get files name)

-- a read gave bytes of the file from the place on, at most so many, and none only at its end
pub record IsPiece (file : List ℕ) (at want : ℕ) (buffer : List ℕ) (count : ℕ) : Type 0 where
  pub fits : count ≤ want
  pub there : count ≤ length (drop at file)
  pub is : take count buffer ≡ take count (drop at file)
  pub ended : count ≡ 0 → length file ≤ at

abbrev pub PieceOf : Option (List ℕ) → ℕ → ℕ → List ℕ → Got → Type 0
PieceOf None at want buffer got.Absent = Unit {0}
PieceOf None at want buffer (got.Count count) = ⊥
PieceOf (Some file) at want buffer got.Absent = ⊥
PieceOf (Some file) at want buffer (got.Count count) = IsPiece file at want buffer count

abbrev pub GivesPiece : Option Files → List ℕ → ℕ → ℕ → List ℕ → Result Got DeviceRefusal → Type 0
GivesPiece None name at want buffer answer = Unit {0}
GivesPiece (Some files) name at want buffer (Err _) = Unit {0}
GivesPiece (Some files) name at want buffer (Ok found) = PieceOf (get files name) at want buffer found

-- ---- a file that is read piece by piece

-- the prefix of the file up to the place was taken
abbrev pub TakesPrefix : Option (List ℕ) → List ℕ → ℕ → Type 0
TakesPrefix None taken at = at ≡ 0
TakesPrefix (Some file) taken at = taken ≡ take at file

abbrev pub TakesSoFar : Option Files → List ℕ → List ℕ → ℕ → Type 0
TakesSoFar None name taken at = Unit {0}
TakesSoFar (Some files) name taken at = TakesPrefix (get files name) taken at

-- the file ended at the place, or the limit stands there
abbrev pub IsEndOf : Option (List ℕ) → ℕ → Type 0
IsEndOf None at = at ≢ 0
IsEndOf (Some file) at = take at file ≡ read_bytes file

abbrev pub IsEnd : Option Files → List ℕ → ℕ → Type 0
IsEnd None name at = Unit {0}
IsEnd (Some files) name at = IsEndOf (get files name) at
