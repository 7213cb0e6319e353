-- A run of a program: what it shows, which files it puts, where it asks for lines of input, and why it stops.
use Rattle.std.specs.Prelude.{◌≡◌, ℕ, zero, suc, ◌+◌, List, [], ◌∷◌, ◌++◌, Option, Some, None}
use Rattle.std.specs.FinMap.{get}
use Rattle.std.specs.Option.{option_map}
use Rattle.t3_io.specs.Files.{Files}
use Rattle.t3_files.specs.Reading.{read_bytes}
use Rattle.t3_console.specs.Output.{said_out, rest_out, close_out}
use Rattle.t3_lines.specs.Lines.{wanted_line}
use Rattle.t3_lines.specs.declared.line.WantedLine.{WantedLine}
use Rattle.t3_lines.specs.declared.line.WantedLine.TheVariants as lines
use Rattle.t3_load.specs.Loading.{ProgramValue}
use Rattle.t3_interp.specs.declared.event.Event.{Event}
use Rattle.t3_interp.specs.declared.event.Event.TheVariants.{Went, Said, WantLine, WantPut, WantGet, Ended}
use Rattle.t3_interp.specs.declared.event.Input.{Input}
use Rattle.t3_interp.specs.declared.event.Input.TheVariants as inputs
use Rattle.t3_interp.specs.Machine.{State, initial}
use Rattle.t3_interp.specs.Step.{After, Steps, StepsBy}
use Rattle.t3_run.specs.declared.stop.Stop.{Stop}
use Rattle.t3_run.specs.declared.stop.Stop.TheVariants.{Ends, NoStep, NoLine}
use Rattle.t3_run.specs.Act.{Act, Shows, Puts, Asks, with_file}
use Rattle.t3_run.specs.EndLines.{end_line}

-- by what a run goes besides its program: how wide its lines are, and the input
pub record Terms : Type 0 where
  pub width : ℕ
  pub input : List ℕ

-- how far a run has come
pub record World : Type 0 where
  pub state : State
  -- what was said since a line was last wanted
  pub text : List ℕ
  -- how many lines of input were given
  pub given : ℕ
  -- the files, where the depot tells them
  pub files : Option Files

-- what a run does, why it stops, and the state in which it does
pub record Ran : Type 0 where
  pub acts : List Act
  pub stop : Stop
  pub last : State

abbrev pub preceded_by : List Act → Ran → Ran
preceded_by acts ran = record ran { acts = acts ++ ran.acts }

-- nothing was done yet
abbrev pub begun : ProgramValue → Option Files → World
begun program files = record { state = initial program; text = []; given = 0; files = files }

-- what remains of the text is shown, its last line is ended, and how the run stopped is shown
abbrev pub stopped : Terms → Stop → World → Ran
stopped terms stop world =
    record { acts = Shows (close_out terms.width world.text ++ end_line stop) ∷ []; stop = stop; last = world.state }

-- ---- an instruction that waits

-- the run goes on in a state, unless it has ended
abbrev pub GoesOn : (World → Ran → Type 0) → Terms → Event → World → Ran → Type 0
GoesOn Rest terms (Ended end) world ran = ran ≡ stopped terms (Ends end) world
GoesOn Rest terms _ world ran = Rest world ran

-- the instruction that waits is finished, within the same step
abbrev pub IsAnswered : (World → Ran → Type 0) → Terms → ProgramValue → Input → World → Ran → Type 0
IsAnswered Rest terms program input world ran =
    (after : After) × StepsBy program input world.state after × GoesOn Rest terms after.event (record world { state = after.state }) ran

-- by what comes of wanting a line
abbrev pub TakesLine : (World → Ran → Type 0) → Terms → ProgramValue → WantedLine → World → Ran → Type 0
TakesLine Rest terms program (lines.Line line) world ran =
    IsAnswered Rest terms program (inputs.Line line) (record world { given = world.given + 1 }) ran
TakesLine Rest terms program lines.EndOfInput world ran = IsAnswered Rest terms program inputs.EndOfInput world ran
TakesLine Rest terms program lines.PastLimit world ran = ran ≡ stopped terms NoLine world

-- a file that was wanted: the bytes that were read of it, or that there is none
abbrev pub file_input : Option (List ℕ) → Input
file_input None = inputs.NoFile
file_input (Some bytes) = inputs.File bytes

-- any input that is told of a file
abbrev pub IsFileInput : Input → Type 0
IsFileInput (inputs.File bytes) = Unit {0}
IsFileInput inputs.NoFile = Unit {0}
IsFileInput _ = ⊥

-- what the files give of a name; anything, where the depot doesn't tell them
abbrev pub GivesFile : Option Files → List ℕ → Input → Type 0
GivesFile None name input = IsFileInput input
GivesFile (Some files) name input = input ≡ file_input (option_map read_bytes (get files name))

-- ---- what comes of a step

-- what is said is shown as far as it can be; before a line is wanted all of it is, and the page begins anew; a saved state is put, and a file that
-- is wanted is given
abbrev pub RunsOn : (World → Ran → Type 0) → Terms → ProgramValue → Event → World → Ran → Type 0
RunsOn Rest terms program Went world ran = Rest world ran
RunsOn Rest terms program (Said text) world ran =
    (rest : Ran) × Rest (record world { text = world.text ++ text }) rest
    × (ran ≡ preceded_by (Shows (said_out terms.width world.text text) ∷ []) rest)
RunsOn Rest terms program WantLine world ran =
    (rest : Ran) × TakesLine Rest terms program (wanted_line terms.input world.given) (record world { text = [] }) rest
    × (ran ≡ preceded_by (Shows (rest_out terms.width world.text) ∷ Asks ∷ []) rest)
RunsOn Rest terms program (WantPut name bytes) world ran =
    (rest : Ran) × IsAnswered Rest terms program inputs.Stored (record world { files = with_file name bytes world.files }) rest
    × (ran ≡ preceded_by (Puts name bytes ∷ []) rest)
RunsOn Rest terms program (WantGet name) world ran =
    (input : Input) × GivesFile world.files name input × IsAnswered Rest terms program input world ran
RunsOn Rest terms program (Ended end) world ran = ran ≡ stopped terms (Ends end) world

-- from there, with so many steps left: without one the run stops, else a step is taken
unfoldable pub Runs : Terms → ProgramValue → ℕ → World → Ran → Type 0
Runs terms program zero world ran = ran ≡ stopped terms NoStep world
Runs terms program (suc left) world ran =
    (after : After) × Steps program world.state after
    × RunsOn (Runs terms program left) terms program after.event (record world { state = after.state }) ran
