-- What the one public call promises of its answers and of the devices.
use Rattle.std.specs.Prelude.{◌≡◌, ℕ, ◌<◌, ◌⊎◌, List, [], ◌++◌, Option, Some}
use Rattle.t3_io.specs.Files.{Files}
use Rattle.t3_io.specs.Session.{Session}
use Rattle.t3_run.specs.Act.{Act, shown_by, files_by, StopsIn}
use Rattle.t3_run.specs.Showing.{ShowsMore, ShowsPrefix}
use Rattle.t3_run.specs.Asking.{IsInput, Moves, AsksBy}
use Rattle.t3_cli.specs.declared.status.Status.{Status}
use Rattle.t3_cli.specs.declared.status.Status.TheVariants.{DepotFault, ConsoleFault, NoMemory}
use Rattle.t3_words.specs.Command.{CommandValue}
use Rattle.t3_cli.specs.Outcome.{Outcome, IsResult}

-- an answer of a call that was cut short
abbrev pub CutsShort : Status → Type 0
CutsShort DepotFault = Unit {0}
CutsShort ConsoleFault = Unit {0}
CutsShort NoMemory = Unit {0}
CutsShort _ = ⊥

-- a fault is answered exactly where the device counted one in the call
abbrev pub CountsFaults : Type 0 → ℕ → ℕ → Type 0
CountsFaults IsFault before after = (IsFault → before < after) × (IsFault ⊎ (after ≡ before))

-- more was shown, and a prefix of the input was taken, of so many bytes at most as a run takes
abbrev pub MovesSome : Option Session → Option Session → Type 0
MovesSome before after = (said : List ℕ) × Moves before after said

-- a text was shown whole, with the status that goes with it, or the call was cut short after a prefix of it
pub record IsShownWhole (before after : Option Session) (text : List ℕ) (status answer : Status) : Type 0 where
  pub same : answer ≡ status
  pub shows : ShowsMore before after text

pub record IsShownCut (before after : Option Session) (text : List ℕ) (answer : Status) : Type 0 where
  pub cut : CutsShort answer
  pub said : List ℕ
  pub prefix : ShowsPrefix [] text said
  pub shows : ShowsMore before after said

abbrev pub IsShown : Option Session → Option Session → List ℕ → Status → Status → Type 0
IsShown before after text status answer = IsShownWhole before after text status answer ⊎ IsShownCut before after text answer

-- the status comes only with its cause, and wherever the cause holds, unless the call was cut short
pub record HasExactCause (answer status : Status) (session : Option Session) (Cause : List ℕ → Type 0) : Type 0 where
  pub only : answer ≡ status → (input : List ℕ) × IsInput session input × Cause input
  pub always : ((input : List ℕ) → IsInput session input → Cause input) → (answer ≡ status) ⊎ CutsShort answer

-- the whole outcome stands
pub record IsWhole (command : Option CommandValue) (files : Files) (before : Option Session) (answer : Status) (left : Option Files) (after : Option Session) : Type 0 where
  pub input : List ℕ
  pub is_input : IsInput before input
  pub outcome : Outcome
  pub result : IsResult command files input outcome
  pub status : answer ≡ outcome.status
  pub files_are : left ≡ Some (files_by files outcome.acts)
  pub asks : AsksBy outcome.acts before after (shown_by outcome.acts)

-- the outcome was cut short within one of its acts, or after the last; a file is spoiled only where the depot faulted
pub record IsCutWithin (command : Option CommandValue) (files : Files) (before : Option Session) (answer : Status) (left : Option Files) (after : Option Session) : Type 0 where
  pub input : List ℕ
  pub is_input : IsInput before input
  pub outcome : Outcome
  pub result : IsResult command files input outcome
  pub done : List Act
  pub rest : List Act
  pub acts_are : outcome.acts ≡ done ++ rest
  pub said : List ℕ
  pub stops : StopsIn (answer ≡ DepotFault) (files_by files done) (shown_by done) rest left said
  pub asks : AsksBy outcome.acts before after said

-- nothing was done yet, or the outcome was cut short
abbrev pub IsCut : Option CommandValue → Files → Option Session → Status → Option Files → Option Session → Type 0
IsCut command files before answer left after =
    ((left ≡ Some files) × (after ≡ before)) ⊎ IsCutWithin command files before answer left after
