-- What a command does to the outside, act by act, and what of it stands where it was cut short.
use Rattle.std.specs.Prelude.{◌≡◌, ◌⊎◌, ℕ, zero, suc, List, [], ◌∷◌, ◌++◌, Option, Some, None, option_map}
use Rattle.std.specs.FinMap.{insert}
use Rattle.t3_io.specs.Files.{Files}
use Rattle.t3_io.specs.Putting.{MaySpoil}
use Rattle.t3_run.specs.Showing.{ShowsPrefix}

-- a text is shown, a file is put, or a line of input is wanted
pub data Act : Type 0 where
  Shows : (text : List ℕ) → Act
  Puts : (name bytes : List ℕ) → Act
  Asks : Act

-- all that is shown
abbrev pub shown_by : List Act → List ℕ
shown_by [] = []
shown_by (Shows text ∷ acts) = text ++ shown_by acts
shown_by (Puts name bytes ∷ acts) = shown_by acts
shown_by (Asks ∷ acts) = shown_by acts

-- all that is shown before a line is wanted, behind so many that were wanted before
abbrev pub shown_before : ℕ → List Act → Option (List ℕ)
shown_before count [] = None
shown_before count (Shows text ∷ acts) = option_map (λ shown. text ++ shown) (shown_before count acts)
shown_before count (Puts name bytes ∷ acts) = shown_before count acts
shown_before zero (Asks ∷ acts) = Some []
shown_before (suc count) (Asks ∷ acts) = shown_before count acts

-- the files afterwards: each put sets its file, one after the other
abbrev pub files_by : Files → List Act → Files
files_by files [] = files
files_by files (Shows text ∷ acts) = files_by files acts
files_by files (Puts name bytes ∷ acts) = files_by (insert files name bytes) acts
files_by files (Asks ∷ acts) = files_by files acts

-- the file of a name is set, where the files are told
abbrev pub with_file : List ℕ → List ℕ → Option Files → Option Files
with_file name bytes None = None
with_file name bytes (Some files) = Some (insert files name bytes)

-- the same, where the files are told
abbrev pub files_after : Option Files → List Act → Option Files
files_after files [] = files
files_after files (Shows text ∷ acts) = files_after files acts
files_after files (Puts name bytes ∷ acts) = files_after (with_file name bytes files) acts
files_after files (Asks ∷ acts) = files_after files acts

-- a put that left the files as they were, or that failed: where the depot faulted, its file may be spoiled
abbrev pub FailsToPut : Type 0 → Files → List ℕ → List ℕ → Option Files → Type 0
FailsToPut Faulted files name bytes left = (left ≡ Some files) ⊎ (Faulted × MaySpoil files name bytes left)

-- cut short within the first of these acts, where the files and what was shown stood so before it: the files that are left, and all that was shown.
-- Of a put at most its own file differs, and that only where the depot faulted; of a text a prefix was shown; and no later act has begun
abbrev pub StopsIn : Type 0 → Files → List ℕ → List Act → Option Files → List ℕ → Type 0
StopsIn Faulted files shown [] left said = (left ≡ Some files) × (said ≡ shown)
StopsIn Faulted files shown (Shows text ∷ _) left said = (left ≡ Some files) × ShowsPrefix shown text said
StopsIn Faulted files shown (Puts name bytes ∷ _) left said = FailsToPut Faulted files name bytes left × (said ≡ shown)
StopsIn Faulted files shown (Asks ∷ _) left said = (left ≡ Some files) × (said ≡ shown)

-- all of these acts were done; nothing is claimed of the files of a depot that doesn't tell them
abbrev pub LeavesActs : Option Files → Option Files → List Act → Type 0
LeavesActs None left acts = Unit {0}
LeavesActs (Some files) left acts = left ≡ Some (files_by files acts)

-- acts were cut short within one behind these
abbrev pub StopsBehind : Type 0 → Option Files → List Act → List Act → Option Files → List ℕ → Type 0
StopsBehind Faulted None done rest left said = Unit {0}
StopsBehind Faulted (Some files) done rest left said = StopsIn Faulted (files_by files done) (shown_by done) rest left said
