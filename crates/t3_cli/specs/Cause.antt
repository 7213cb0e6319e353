-- The cause of each answer: a table with a line a status, and one for all by which runs stop.
use Rattle.std.specs.Prelude.{◌≡◌, ℕ, List, Option, Some, None, Ok, Err}
use Rattle.std.specs.FinMap.{get}
use Rattle.t3_io.specs.Files.{Files}
use Rattle.t3_image_read.specs.ImageText.{ImageValue}
use Rattle.t3_image_read.specs.Refusal.{IsRefused}
use Rattle.t3_asm.specs.declared.refusal.AsmRefusal.{AsmRefusal}
use Rattle.t3_cli.specs.declared.status.Status.{Status}
use Rattle.t3_cli.specs.declared.status.Status.TheVariants.{Done, Usage, Absent, ImageRefused, SourceRefused, LoadRefused, DepotFault, ConsoleFault, NoMemory}
use Rattle.t3_words.specs.Command.{CommandValue, RunOptions}
use Rattle.t3_load.specs.declared.refusal.LoadRefusal.{LoadRefusal as LoadWhy}
use Rattle.t3_run.specs.Run.{Ran}
use Rattle.t3_words.specs.Input.{InputFile, ImageFile, SourceFile, MadeImage, input_of}
use Rattle.t3_files.specs.Reading.{read_bytes}
use Rattle.t3_drill.specs.Drill.{drill_image}
use Rattle.t3_cli.specs.Plan.{Running, plan_of}
use Rattle.t3_cli.specs.Outcome.{assembled, BeginsWith, IsLoaded, RunsImage, status_of}

-- the file isn't there
abbrev pub IsAbsent : InputFile → Files → Type 0
IsAbsent (ImageFile name) files = get files name ≡ None
IsAbsent (SourceFile name) files = get files name ≡ None
IsAbsent (MadeImage number) files = ⊥

-- the file is to be an image, and its bytes are refused
abbrev pub IsRefusedImage : InputFile → Files → Type 0
IsRefusedImage (SourceFile name) files = ⊥
IsRefusedImage (MadeImage number) files = ⊥
IsRefusedImage (ImageFile name) files = (file : List ℕ) × (get files name ≡ Some file) × IsRefused (read_bytes file)

-- the file is to be a source, and a line of it is bad, or it is too long
abbrev pub IsRefusedSource : InputFile → Files → Type 0
IsRefusedSource (ImageFile name) files = ⊥
IsRefusedSource (MadeImage number) files = ⊥
IsRefusedSource (SourceFile name) files =
    (file : List ℕ) × (refused : AsmRefusal) × (get files name ≡ Some file) × (assembled (read_bytes file) ≡ Err refused)

-- the file is to be an image and begins with this one, is to be a source and says it, or it is made
abbrev pub HasImage : InputFile → Files → ImageValue → Type 0
HasImage (ImageFile name) files image = (file : List ℕ) × (get files name ≡ Some file) × BeginsWith (read_bytes file) image
HasImage (SourceFile name) files image = (file : List ℕ) × (get files name ≡ Some file) × (assembled (read_bytes file) ≡ Ok image)
HasImage (MadeImage number) files image = image ≡ drill_image number

-- the command runs that image by these options
pub record RunsInput (command : CommandValue) (files : Files) (image : ImageValue) (options : RunOptions) : Type 0 where
  pub actions : Option ℕ
  pub has : HasImage (input_of command) files image
  pub runs : plan_of command image ≡ Running options actions

-- no program is made of it
abbrev pub IsUnloadable : CommandValue → Files → Type 0
IsUnloadable command files =
    (image : ImageValue) × (options : RunOptions) × (why : LoadWhy) × RunsInput command files image options × IsLoaded options image (Err why)

-- it is run, and the run stops by this status
abbrev pub EndsBy : Status → CommandValue → Files → List ℕ → Type 0
EndsBy status command files input =
    (image : ImageValue) × (options : RunOptions) × (ran : Ran) × RunsInput command files image options
    × RunsImage image options (Some files) input ran × (status_of ran.stop ≡ status)

-- why a command isn't done: each status that isn't told of here is one by which runs stop; a failing device and want of memory have no cause
-- here
abbrev pub CommandCause : Status → CommandValue → Files → List ℕ → Type 0
CommandCause Done command files input = ⊥
CommandCause Usage command files input = ⊥
CommandCause Absent command files input = IsAbsent (input_of command) files
CommandCause ImageRefused command files input = IsRefusedImage (input_of command) files
CommandCause SourceRefused command files input = IsRefusedSource (input_of command) files
CommandCause LoadRefused command files input = IsUnloadable command files
CommandCause DepotFault command files input = ⊥
CommandCause ConsoleFault command files input = ⊥
CommandCause NoMemory command files input = ⊥
CommandCause status command files input = EndsBy status command files input

-- why the words aren't carried out: they are no command, or the command isn't done
abbrev pub WordsCause : Status → Option CommandValue → Files → List ℕ → Type 0
WordsCause status None files input = status ≡ Usage
WordsCause status (Some command) files input = CommandCause status command files input

-- and they are where there is no such cause
abbrev pub Cause : Status → Option CommandValue → Files → List ℕ → Type 0
Cause Done command files input = (status : Status) → ¬ WordsCause status command files input
Cause status command files input = WordsCause status command files input
