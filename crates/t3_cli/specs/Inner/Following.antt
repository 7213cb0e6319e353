-- How what a call did follows an outcome.
use Rattle.std.specs.Prelude.{◌≡◌, ◌≢◌, ℕ, ◌⊎◌, List, ◌++◌, length, Option, Some, None, IfSome, Result, Ok, Err}
use Rattle.t3_io.specs.Files.{Files}
use Rattle.t3_io.specs.Session.{Session}
use Rattle.t3_io.specs.Putting.{PutsFile}
use Rattle.t3_io.specs.Cause.{MovesFaults}
use Rattle.t3_io.specs.declared.refusal.DeviceRefusal.{DeviceRefusal}
use Rattle.t3_io.specs.declared.refusal.DeviceRefusal.TheVariants as device
use Rattle.t3_image_read.specs.ImageText.{ImageValue}
use Rattle.t3_cli.specs.declared.images.no_image.NoImage.{NoImage}
use Rattle.t3_cli.specs.declared.images.no_image.NoImage.TheVariants as none
use Rattle.t3_cli.specs.declared.status.Status.{Status}
use Rattle.t3_cli.specs.declared.status.Status.TheVariants.{Absent, ImageRefused, SourceRefused, DepotFault, ConsoleFault}
use Rattle.t3_run.specs.Act.{Act, shown_by, LeavesActs, StopsBehind}
use Rattle.t3_run.specs.Asking.{IsInput, AsksBy}
use Rattle.t3_load.specs.Loading.{ProgramValue}
use Rattle.t3_run.specs.Run.{Ran}
use Rattle.t3_words.specs.Command.{CommandValue, RunOptions}
use Rattle.t3_run.specs.declared.stop.RunEnd.{RunEnd}
use Rattle.t3_cli.specs.Lines.{absent_line, refused_line, bad_line, drill_line}
use Rattle.t3_cli.specs.Outcome.{Outcome, ran_outcome, status_of, RunsProgram, IsImageOutcome}
use Rattle.t3_cli.specs.Inner.Showing.{ShowsOrWants}
use Rattle.t3_words.specs.Input.{input_of}
use Rattle.t3_cli.specs.Top.{CountsFaults, CutsShort, IsWhole, IsCut}
use Rattle.t3_cli.specs.Inner.NoImage.{HasNoImage, device_answer}
use Rattle.t3_cli.specs.Inner.Reading.{BeginsBy}

-- all acts were done, and the status is that of the outcome
pub record Completes (outcome : Outcome) (files left : Option Files) (before after : Option Session) (answer : Status) : Type 0 where
  pub status : answer ≡ outcome.status
  pub leaves : LeavesActs files left outcome.acts
  pub asks : AsksBy outcome.acts before after (shown_by outcome.acts)

-- the call was cut short within one of them
pub record Breaks (acts : List Act) (files left : Option Files) (before after : Option Session) (answer : Status) : Type 0 where
  pub cut : CutsShort answer
  pub done : List Act
  pub rest : List Act
  pub acts_are : acts ≡ done ++ rest
  pub said : List ℕ
  pub stops : StopsBehind (answer ≡ DepotFault) files done rest left said
  pub asks : AsksBy acts before after said

abbrev pub Follows : Outcome → Option Files → Option Files → Option Session → Option Session → Status → Type 0
Follows outcome files left before after answer =
    Completes outcome files left before after answer ⊎ Breaks outcome.acts files left before after answer

-- it follows one of these outcomes, with the files and the input that the devices had
abbrev pub FollowsSome : (Option Files → List ℕ → Outcome → Type 0)
    → Option Files → Option Files → Option Session → Option Session → Status → Type 0
FollowsSome IsOutcome files left before after answer =
    (input : List ℕ) × IsInput before input × (outcome : Outcome) × IsOutcome files input outcome × Follows outcome files left before after answer

-- the outcome of a program's run
abbrev pub IsProgramOutcome : ProgramValue → RunOptions → Option ℕ → Option Files → List ℕ → Outcome → Type 0
IsProgramOutcome program options actions files input outcome =
    (ran : Ran) × RunsProgram program options files input ran × (outcome ≡ ran_outcome actions ran)

-- a run ended so, and then a drill's line was shown
abbrev pub IsClosed : Option Session → Option Session → Option ℕ → RunEnd → Status → Type 0
IsClosed before after None ended answer = (answer ≡ status_of ended.stop) × (after ≡ before)
IsClosed before after (Some actions) ended answer = ShowsOrWants before after (drill_line actions ended) (status_of ended.stop) answer

-- the outcome of a command, by the image that it begins with
abbrev pub IsCommandOutcome : CommandValue → Option Files → List ℕ → Outcome → Type 0
IsCommandOutcome command files input outcome =
    (image : ImageValue) × BeginsBy (input_of command) files image × IsImageOutcome command image files input outcome

-- a command was carried out by its image, or it has none and nothing was done
abbrev pub CarriesOutCommand : CommandValue → Option Files → Option Files → Option Session → Option Session → Result Status NoImage → Type 0
CarriesOutCommand command files left before after (Ok answer) = FollowsSome (IsCommandOutcome command) files left before after answer
CarriesOutCommand command files left before after (Err why) = IfSome files (HasNoImage (input_of command) why) × (left ≡ files) × (after ≡ before)

-- what is shown of a command without an image
abbrev pub ShowsNoImage : List ℕ → NoImage → Option Session → Option Session → Status → Type 0
ShowsNoImage name none.Absent before after answer = ShowsOrWants before after (absent_line name) Absent answer
ShowsNoImage name (none.Refused place why) before after answer = ShowsOrWants before after (refused_line why place) ImageRefused answer
ShowsNoImage name (none.BadLine line why) before after answer = ShowsOrWants before after (bad_line line why) SourceRefused answer
ShowsNoImage name (none.Failed refusal) before after answer = CutsShort answer × (after ≡ before)

-- the depot's fault is answered exactly where the depot failed
abbrev pub FailsBy : NoImage → Status → Type 0
FailsBy (none.Failed device.Fault) answer = answer ≡ DepotFault
FailsBy _ answer = answer ≢ DepotFault

-- how a command moves the depot's count of faults
abbrev pub CountsDepot : ℕ → ℕ → Result Status NoImage → Type 0
CountsDepot before after (Ok answer) = CountsFaults (answer ≡ DepotFault) before after
CountsDepot before after (Err why) = MovesFaults before after (device_answer why)

-- and the console's, which shows nothing where there is no image
abbrev pub CountsConsole : ℕ → ℕ → Result Status NoImage → Type 0
CountsConsole before after (Ok answer) = CountsFaults (answer ≡ ConsoleFault) before after
CountsConsole before after (Err why) = after ≡ before

-- how many bytes were put, or why they weren't
abbrev pub PutsSized : Option Files → Option Files → List ℕ → List ℕ → Result ℕ DeviceRefusal → Type 0
PutsSized files left name bytes (Ok size) = (size ≡ length bytes) × PutsFile files left name bytes (Ok tt)
PutsSized files left name bytes (Err refusal) = PutsFile files left name bytes (Err refusal)

-- the whole outcome stands, or the call was cut short
abbrev pub Answers : Option CommandValue → Files → Option Session → Status → Option Files → Option Session → Type 0
Answers command files before answer left after =
    IsWhole command files before answer left after ⊎ (CutsShort answer × IsCut command files before answer left after)
