-- What the functions that carry a run out have done of it, and what is the rest.
use Rattle.std.specs.Prelude.{◌≡◌, ℕ, ◌+◌, ◌<◌, false, List, [], ◌∷◌, ◌++◌, Option, Some, None, Result, Ok, Err}
use Rattle.std.specs.List.{AllByRecursion}
use Rattle.t3_io.specs.Files.{Files}
use Rattle.t3_io.specs.Session.{Session}
use Rattle.t3_io.specs.declared.refusal.DeviceRefusal.{DeviceRefusal}
use Rattle.t3_console.specs.Page.{HasTaken}
use Rattle.t3_lines.specs.Lines.{wanted_line}
use Rattle.t3_lines.specs.Reader.{ReaderValue, IsInputOf, IsReading}
use Rattle.t3_lines.specs.declared.line.WantedLine.{WantedLine}
use Rattle.t3_load.specs.Loading.{ProgramValue}
use Rattle.t3_interp.specs.declared.event.End.{End}
use Rattle.t3_interp.specs.declared.event.Event.{Event}
use Rattle.t3_interp.specs.declared.event.Event.TheVariants.{Went, Ended}
use Rattle.t3_interp.specs.declared.event.Input.{Input}
use Rattle.t3_interp.specs.declared.event.Want.TheVariants.{Go}
use Rattle.t3_interp.specs.Machine.{State, MachineValue}
use Rattle.t3_interp.specs.Step.{StepsBy}
use Rattle.t3_run.specs.declared.stop.Stop.{Stop}
use Rattle.t3_run.specs.declared.stop.Stop.TheVariants.{Ends}
use Rattle.t3_run.specs.declared.refusal.RunRefusal.{RunRefusal}
use Rattle.t3_run.specs.declared.screen.Screen.{Screen}
use Rattle.t3_run.specs.declared.turn.Turn.{Turn}
use Rattle.t3_run.specs.declared.turn.Turn.TheVariants as turns
use Rattle.t3_run.specs.Act.{Act, Shows, Puts, Asks, shown_by, files_after, LeavesActs}
use Rattle.t3_run.specs.Showing.{ShowsMore}
use Rattle.t3_run.specs.Asking.{AsksBy}
use Rattle.t3_run.specs.Run.{Terms, World, Ran, Runs, RunsOn, TakesLine, IsAnswered, preceded_by, begun, stopped}
use Rattle.t3_run.specs.Running.{Outside, HasRunInto}
use Rattle.t3_run.specs.Cause.{IsDepotFault}

-- ---- what a screen has put out

-- a text was put out behind what was pending, and shown as far as it isn't pending now
pub record Shifts (before after : Option Session) (old text new : List ℕ) : Type 0 where
  pub said : List ℕ
  pub is : old ++ text ≡ said ++ new
  pub shows : ShowsMore before after said

-- at a failure some of it wasn't shown
abbrev pub PutsOn : Option Session → Option Session → Screen → List ℕ → Screen → Result (Unit {0}) DeviceRefusal → Type 0
PutsOn before after old text new (Ok _) = Shifts before after old.out.items text new.out.items
PutsOn before after old text new (Err _) = (left : List ℕ) × Shifts before after old.out.items text left

-- ---- what was done of a run

-- a run that is carried out: its program, how many steps it may make, how wide its lines are, and what the devices told before it
pub record Play : Type 0 where
  pub program : ProgramValue
  pub steps : ℕ
  pub width : ℕ
  pub before : Outside

-- how many lines are asked for
abbrev pub asks_in : List Act → ℕ
asks_in [] = 0
asks_in (Shows text ∷ acts) = asks_in acts
asks_in (Puts name bytes ∷ acts) = asks_in acts
asks_in (Asks ∷ acts) = asks_in acts + 1

-- no file is put
abbrev pub NoPuts : List Act → Type 0
NoPuts [] = Unit {0}
NoPuts (Shows text ∷ acts) = NoPuts acts
NoPuts (Puts name bytes ∷ acts) = ⊥
NoPuts (Asks ∷ acts) = NoPuts acts

-- the reads that were added, each of which was made when some of the input was left
pub record HasReadOn (before now : Session) : Type 0 where
  pub added : List (ℕ × ℕ)
  pub asked : now.asked ≡ before.asked ++ added
  pub each : AllByRecursion (λ read. 0 < read.0) added

-- of the input that the console had, where it tells it, the reader has taken what isn't left, and until it has come to the end each read was made
-- when some was
abbrev pub IsReadingOf : Option Session → Option Session → ReaderValue → Type 0
IsReadingOf None now reader = Unit {0}
IsReadingOf (Some before) None reader = ⊥
IsReadingOf (Some before) (Some now) reader = IsReading before.left reader now × (reader.is_ended ≡ false → HasReadOn before now)

-- the rest of a run, by the files that there are then
abbrev pub Rests : Type 1
Rests = Option Files → Terms → Ran → Type 0

-- these acts were done, the recent ones behind the last put, but that some bytes are pending that the recent ones show, and so many lines were asked
-- for: whatever the rest of the run is, behind them it is the run
pub record HasPlayed (play : Play) (Rest : Rests) (count : ℕ) (pending : List ℕ) (reader : ReaderValue) (now : Outside) : Type 0 where
  pub acts : List Act
  pub done : List Act
  pub recent : List Act
  pub acts_are : acts ≡ done ++ recent
  pub unput : NoPuts recent
  -- what was shown of the recent acts, and of all
  pub said : List ℕ
  pub is : shown_by recent ≡ said ++ pending
  pub shown : List ℕ
  pub shown_is : shown ≡ shown_by done ++ said
  pub leaves : LeavesActs play.before.files now.files done
  pub asks : AsksBy acts play.before.session now.session shown
  pub reads : IsReadingOf play.before.session now.session reader
  pub counted : reader.is_ended ≡ false → asks_in acts ≡ count
  pub onward : (terms : Terms) → terms.width ≡ play.width → IsInputOf reader terms.input → (rest : Ran)
      → Rest (files_after play.before.files done) terms rest
      → Runs terms play.program play.steps (begun play.program play.before.files) (preceded_by acts rest)

-- ---- what is the rest

-- a world but for its files
abbrev pub world_of : State → List ℕ → ℕ → Option Files → World
world_of state text given files = record { state = state; text = text; given = given; files = files }

-- so many steps
abbrev pub StepsLeft : Play → ℕ → (Option Files → World) → Rests
StepsLeft play left world files terms rest = Runs terms play.program left (world files) rest

-- what comes of an event, and so many steps
abbrev pub EventLeft : Play → ℕ → Event → (Option Files → World) → Rests
EventLeft play left event world files terms rest = RunsOn (Runs terms play.program left) terms play.program event (world files) rest

-- an instruction is finished by an input, and so many steps
abbrev pub AnswerLeft : Play → ℕ → Input → (Option Files → World) → Rests
AnswerLeft play left input world files terms rest = IsAnswered (Runs terms play.program left) terms play.program input (world files) rest

-- what comes of a line that was wanted, and so many steps
abbrev pub LineLeft : Play → ℕ → WantedLine → (Option Files → World) → Rests
LineLeft play left line world files terms rest = TakesLine (Runs terms play.program left) terms play.program line (world files) rest

-- a line is asked for, and then what comes of it
abbrev pub AskLeft : Play → ℕ → (Option Files → World) → Rests
AskLeft play left world files terms rest =
    (behind : Ran) × LineLeft play left (wanted_line terms.input (world files).given) world files terms behind
    × (rest ≡ preceded_by (Asks ∷ []) behind)

-- nothing but to stop
abbrev pub StopLeft : Stop → (Option Files → World) → Rests
StopLeft stop world files terms rest = rest ≡ stopped terms stop (world files)

-- the page has taken what was said since a line was last wanted
pub record IsPageOf (play : Play) (screen : Screen) (text : List ℕ) : Type 0 where
  pub taken : HasTaken screen.page text
  pub width : screen.page.width ≡ play.width

-- a machine has come so far with a run
pub record IsAt (play : Play) (left : ℕ) (machine : MachineValue) (text : List ℕ) (pending : List ℕ) (reader : ReaderValue) (now : Outside) : Type 0 where
  pub program : machine.program ≡ play.program
  pub wants : machine.state.wants ≡ Go
  pub made : machine.state.steps + left ≡ play.steps
  pub played : HasPlayed play (StepsLeft play left (world_of machine.state text reader.given)) reader.given pending reader now

-- it has stopped in a state, where this was said since a line was last wanted
pub record IsStopped (play : Play) (stop : Stop) (state : State) (text : List ℕ) (pending : List ℕ) (reader : ReaderValue) (now : Outside) : Type 0 where
  pub given : ℕ
  pub count : ℕ
  pub played : HasPlayed play (StopLeft stop (world_of state text given)) count pending reader now

-- a machine goes on, or the run has stopped
abbrev pub Turns : Play → ℕ → List ℕ → List ℕ → ReaderValue → Outside → Turn → Type 0
Turns play left text pending reader now (turns.Goes machine) = IsAt play left machine text pending reader now
Turns play left text pending reader now (turns.Stops machine stop) = IsStopped play stop machine.state text pending reader now

-- what a turn comes to, by which refusals the depot faulted
abbrev pub HasTurned : {E : Type 0} → (E → Type 0) → Play → ℕ → Screen → ReaderValue → Outside → Result Turn E → Type 0
HasTurned Faulted play left screen reader now (Ok turn) = (text : List ℕ) × IsPageOf play screen text × Turns play left text screen.out.items reader now turn
HasTurned Faulted play left screen reader now (Err refusal) = HasRunInto (Faulted refusal) play.program play.steps play.width play.before now

-- what an instruction comes to that waited: nothing is pending
abbrev pub HasFinished : {E : Type 0} → (E → Type 0) → Play → ℕ → List ℕ → ReaderValue → Outside → Result Turn E → Type 0
HasFinished Faulted play left text reader now (Ok turn) = Turns play left text [] reader now turn
HasFinished Faulted play left text reader now (Err refusal) = HasRunInto (Faulted refusal) play.program play.steps play.width play.before now

-- an instruction that waited is finished: the machine goes on, or its run has ended
abbrev pub IsFinished : MachineValue → Input → Turn → Type 0
IsFinished old input (turns.Goes machine) =
    (machine.program ≡ old.program) × StepsBy old.program input old.state (record { state = machine.state; event = Went })
    × (machine.state.wants ≡ Go) × (machine.state.steps ≡ old.state.steps)
IsFinished old input (turns.Stops machine stop) =
    (end : End) × StepsBy old.program input old.state (record { state = machine.state; event = Ended end }) × (stop ≡ Ends end)

-- an answer of one device, as of a run
abbrev pub told_as : (DeviceRefusal → RunRefusal) → Result Turn DeviceRefusal → Result Turn RunRefusal
told_as told (Ok turn) = Ok turn
told_as told (Err refusal) = Err (told refusal)

-- the whole loop
abbrev pub HasEnded : Play → Screen → Outside → Result (MachineValue × Stop) RunRefusal → Type 0
HasEnded play screen now (Ok (machine, stop)) =
    (text : List ℕ) × (reader : ReaderValue) × IsPageOf play screen text × IsStopped play stop machine.state text screen.out.items reader now
HasEnded play screen now (Err refusal) = HasRunInto (IsDepotFault refusal) play.program play.steps play.width play.before now
