-- What a command gives where nothing fails: a status, and what it does to the outside.
use Rattle.std.specs.Prelude.{◌≡◌, ◌≢◌, ℕ, ◌⊎◌, List, [], ◌∷◌, ◌++◌, length, nat_lt, if◌then◌else◌, Option, Some, None, Result, Ok, Err}
use Rattle.std.specs.FinMap.{get}
use Rattle.t3_holder.specs.NumberText.{AreBytes}
use Rattle.t3_io.specs.Files.{Files}
use Rattle.t3_files.specs.Reading.{read_bytes}
use Rattle.t3_drill.specs.Drill.{drill_image}
use Rattle.t3_image_read.specs.declared.refusal.ReadWhy.{ReadWhy}
use Rattle.t3_image_read.specs.ImageText.{ImageValue, text}
use Rattle.t3_image_read.specs.Validity.{IsValid}
use Rattle.t3_image_read.specs.Refusal.{Refused}
use Rattle.t3_asm.specs.declared.refusal.AsmRefusal.{AsmRefusal}
use Rattle.t3_asm.specs.declared.refusal.AsmWhy.TheVariants as rules
use Rattle.t3_asm.specs.Refusals.{refusal}
use Rattle.t3_asm.specs.Source.{source}
use Rattle.t3_cli.specs.declared.status.Status.{Status}
use Rattle.t3_cli.specs.declared.status.Status.TheVariants.{Done, Usage, Absent, ImageRefused, LoadRefused, Unhandled, BadCode, StoreFull, StepLimit, InputLimit, SourceRefused}
use Rattle.t3_interp.specs.declared.event.End.TheVariants as ends
use Rattle.t3_run.specs.declared.stop.Stop.{Stop}
use Rattle.t3_run.specs.declared.stop.Stop.TheVariants.{Ends, NoStep, NoLine}
use Rattle.t3_run.specs.Act.{Act, Shows, Puts}
use Rattle.t3_run.specs.Run.{Ran, Runs, begun}
use Rattle.t3_run.specs.Running.{end_at}
use Rattle.t3_words.specs.Command.{CommandValue, RunOptions}
use Rattle.t3_words.specs.Input.{InputFile, ImageFile, SourceFile, MadeImage, input_of}
use Rattle.t3_cli.specs.Lines.{usage_line, absent_line, refused_line, put_line, bad_line, load_line, drill_line}
use Rattle.t3_cli.specs.Plan.{Plan, Showing, Putting, Running, plan_of}
use Rattle.sha2.specs.Sha256.{sha256}
use Rattle.t3_store.specs.declared.limits.StoreLimits.{StoreLimits}
use Rattle.t3_load.specs.declared.refusal.LoadRefusal.{LoadRefusal}
use Rattle.t3_load.specs.declared.refusal.LoadRefusal.TheVariants.{NoMemory as NoRoom}
use Rattle.t3_load.specs.Loading.{ProgramValue, Loads}

pub record Outcome : Type 0 where
  pub status : Status
  pub acts : List Act

-- a text is shown, and that is all
abbrev pub showing : Status → List ℕ → Outcome
showing status text = record { status = status; acts = Shows text ∷ [] }

-- a file is put, and how many bytes it has is shown
abbrev pub putting : List ℕ → List ℕ → Outcome
putting name bytes = record { status = Done; acts = Puts name bytes ∷ Shows (put_line (length bytes)) ∷ [] }

-- the bytes begin with this image
pub record BeginsWith (bytes : List ℕ) (image : ImageValue) : Type 0 where
  pub trailing : List ℕ
  pub valid : IsValid image
  pub begins : bytes ≡ text image ++ trailing

-- the status of a run that stopped so
abbrev pub status_of : Stop → Status
status_of (Ends ends.Returned) = Done
status_of (Ends (ends.Unhandled object fault)) = Unhandled
status_of (Ends (ends.BadCode at cause)) = BadCode
status_of (Ends ends.StoreFull) = StoreFull
status_of NoStep = StepLimit
status_of NoLine = InputLimit

-- the fingerprint of an image: the digest of its bytes
abbrev pub fingerprint_of : ImageValue → List ℕ
fingerprint_of image = sha256 (text image)

-- how much a story has room for
abbrev pub run_limits : RunOptions → StoreLimits
run_limits options =
    record { objects = 1048576; units = 4194304; records = options.records; savepoints = options.savepoints }

-- an image is loaded as this program, or refused by this rule
abbrev pub IsLoaded : RunOptions → ImageValue → Result ProgramValue LoadRefusal → Type 0
IsLoaded options image answer = (answer ≢ Err NoRoom) × Loads image.blocks (fingerprint_of image) (run_limits options) answer

-- a program is run by these options, with these files, where they are told, and this input
abbrev pub RunsProgram : ProgramValue → RunOptions → Option Files → List ℕ → Ran → Type 0
RunsProgram program options files input ran =
    Runs (record { width = options.width; input = input }) program options.steps (begun program files) ran

-- an image is run as its program
pub record RunsImage (image : ImageValue) (options : RunOptions) (files : Option Files) (input : List ℕ) (ran : Ran) : Type 0 where
  pub program : ProgramValue
  pub loaded : IsLoaded options image (Ok program)
  pub runs : RunsProgram program options files input ran

-- what a run does is what a command does that runs, and a drill shows its line behind that
abbrev pub acts_of : Option ℕ → Ran → List Act
acts_of None ran = ran.acts
acts_of (Some actions) ran = ran.acts ++ Shows (drill_line actions (end_at ran.stop ran.last)) ∷ []

abbrev pub ran_outcome : Option ℕ → Ran → Outcome
ran_outcome actions ran = record { status = status_of ran.stop; acts = acts_of actions ran }

-- an image that is refused, or is run
abbrev pub IsRunOutcome : RunOptions → Option ℕ → ImageValue → Option Files → List ℕ → Outcome → Type 0
IsRunOutcome options actions image files input outcome =
    ((why : LoadRefusal) × IsLoaded options image (Err why) × (outcome ≡ showing LoadRefused (load_line why)))
    ⊎ ((ran : Ran) × RunsImage image options files input ran × (outcome ≡ ran_outcome actions ran))

-- what a plan gives of an image, of the files and of the input
abbrev pub IsPlanOutcome : Plan → ImageValue → Option Files → List ℕ → Outcome → Type 0
IsPlanOutcome (Showing text) image files input outcome = outcome ≡ showing Done text
IsPlanOutcome (Putting out bytes) image files input outcome = outcome ≡ putting out bytes
IsPlanOutcome (Running options actions) image files input outcome = IsRunOutcome options actions image files input outcome

-- what a command gives of the image that it reads, that its source says, or that is made for it
abbrev pub IsImageOutcome : CommandValue → ImageValue → Option Files → List ℕ → Outcome → Type 0
IsImageOutcome command image files input outcome = IsPlanOutcome (plan_of command image) image files input outcome

-- the bytes are refused, at the place and by the rule that are shown
pub record IsRefusalOutcome (bytes : List ℕ) (outcome : Outcome) : Type 0 where
  pub place : ℕ
  pub why : ReadWhy
  pub refused : Refused bytes place why
  pub is : outcome ≡ showing ImageRefused (refused_line why place)

-- of a file that is there: its bytes are refused, or begin with an image
abbrev pub IsFileOutcome : CommandValue → List ℕ → Option (List ℕ) → Option Files → List ℕ → Outcome → Type 0
IsFileOutcome command name None files input outcome = outcome ≡ showing Absent (absent_line name)
IsFileOutcome command name (Some file) files input outcome =
    IsRefusalOutcome (read_bytes file) outcome
    ⊎ ((image : ImageValue) × BeginsWith (read_bytes file) image × IsImageOutcome command image files input outcome)

-- how many bytes a source has at most
abbrev pub source_limit : ℕ
source_limit = 268435456

-- the image that bytes say as a source, or its bad line
abbrev pub assembled : List ℕ → Result ImageValue AsmRefusal
assembled bytes = if nat_lt source_limit (length bytes) then Err (refusal 0 rules.TooLong) else source bytes

abbrev pub IsSourceOutcome : CommandValue → Result ImageValue AsmRefusal → Option Files → List ℕ → Outcome → Type 0
IsSourceOutcome command (Ok image) files input outcome = IsImageOutcome command image files input outcome
IsSourceOutcome command (Err refused) files input outcome = outcome ≡ showing SourceRefused (bad_line refused.line refused.why)

-- of a source's file that is there: it says an image, or has a bad line
abbrev pub IsTextOutcome : CommandValue → List ℕ → Option (List ℕ) → Option Files → List ℕ → Outcome → Type 0
IsTextOutcome command name None files input outcome = outcome ≡ showing Absent (absent_line name)
IsTextOutcome command name (Some file) files input outcome = IsSourceOutcome command (assembled (read_bytes file)) files input outcome

abbrev pub IsInputOutcome : CommandValue → InputFile → Files → List ℕ → Outcome → Type 0
IsInputOutcome command (ImageFile name) files input outcome = IsFileOutcome command name (get files name) (Some files) input outcome
IsInputOutcome command (SourceFile name) files input outcome = IsTextOutcome command name (get files name) (Some files) input outcome
IsInputOutcome command (MadeImage number) files input outcome = IsImageOutcome command (drill_image number) (Some files) input outcome

-- what the words give with these files and this input
abbrev pub IsResult : Option CommandValue → Files → List ℕ → Outcome → Type 0
IsResult None files input outcome = outcome ≡ showing Usage usage_line
IsResult (Some command) files input outcome = IsInputOutcome command (input_of command) files input outcome

-- all that the files hold is bytes
abbrev pub HoldBytes : Files → Type 0
HoldBytes files = (name file : List ℕ) → get files name ≡ Some file → AreBytes file
