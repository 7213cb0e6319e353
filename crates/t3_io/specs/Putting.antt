-- What a put of a file does to the files.
use Rattle.std.specs.Prelude.{◌≡◌, ◌⊎◌, List, ℕ, ◌++◌, Option, Some, None, Result, Ok, Err}
use Rattle.std.specs.FinMap.{insert, remove}
use Rattle.t3_io.specs.Files.{Files}
use Rattle.t3_io.specs.declared.refusal.DeviceRefusal.{DeviceRefusal}
use Rattle.t3_io.specs.declared.refusal.DeviceRefusal.TheVariants.{Fault, NoMemory}

-- the file has a prefix of these bytes, and each other file is as before
pub record HasPrefix (files : Files) (name bytes : List ℕ) (left : Option Files) : Type 0 where
  pub prefix : List ℕ
  pub rest : List ℕ
  pub is : bytes ≡ prefix ++ rest
  pub left_is : left ≡ Some (insert files name prefix)

-- the file is as before, or absent, or has a prefix of these bytes, and each other file is as before
abbrev pub MaySpoil : Files → List ℕ → List ℕ → Option Files → Type 0
MaySpoil files name bytes left = (left ≡ Some files) ⊎ (left ≡ Some (remove files name)) ⊎ HasPrefix files name bytes left

-- the file has these bytes, or the put failed; nothing is claimed of a device that doesn't tell its files
abbrev pub PutsFile : Option Files → Option Files → List ℕ → List ℕ → Result (Unit {0}) DeviceRefusal → Type 0
PutsFile None left name bytes answer = Unit {0}
PutsFile (Some files) left name bytes (Ok _) = left ≡ Some (insert files name bytes)
PutsFile (Some files) left name bytes (Err Fault) = MaySpoil files name bytes left
PutsFile (Some files) left name bytes (Err NoMemory) = left ≡ Some files
