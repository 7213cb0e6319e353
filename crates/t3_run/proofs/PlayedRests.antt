-- What is the rest of a play where a text is said, a line or a file is wanted, a file is put, an instruction is finished, and where it begins and ends.
use Rattle.std.proofs.Common.{◌≡◌, ℕ, ◌+◌, List, [], ◌∷◌, ◌++◌, Option, Some, None, Ok, refl, sym, ap, subst, ◌∙◌, append-nil}
use Rattle.std.specs.Global.{Vec}
use Rattle.std.specs.Option.{option_map}
use Rattle.std.specs.Vec.{vec_items}
use Rattle.t3_io.specs.Files.{Files}
use Rattle.t3_io.specs.Session.{Session}
use Rattle.t3_files.specs.Reading.{ReadsFile}
use Rattle.t3_console.specs.Output.{said_out, rest_out, close_out}
use Rattle.t3_lines.specs.Lines.{wanted_line}
use Rattle.t3_lines.specs.Reader.{ReaderValue, new_reader, IsInputOf}
use Rattle.t3_lines.specs.declared.line.WantedLine.{WantedLine}
use Rattle.t3_load.specs.Loading.{ProgramValue}
use Rattle.t3_interp.specs.declared.event.Event.{Event}
use Rattle.t3_interp.specs.declared.event.Event.TheVariants.{Went, Said, WantLine, WantPut, WantGet, Ended}
use Rattle.t3_interp.specs.declared.event.Input.{Input}
use Rattle.t3_interp.specs.declared.event.Input.TheVariants as inputs
use Rattle.t3_interp.specs.Machine.{State, MachineValue, initial}
use Rattle.t3_interp.specs.Step.{StepsBy, Goes}
use Rattle.t3_run.specs.declared.stop.Stop.{Stop}
use Rattle.t3_run.specs.declared.stop.Stop.TheVariants.{NoStep}
use Rattle.t3_run.specs.Act.{Shows, Puts, Asks, LeavesActs}
use Rattle.t3_run.specs.EndLines.{end_line}
use Rattle.t3_run.specs.Run.{Terms, World, Ran, Runs, TakesLine, IsFileInput, file_input, GivesFile, preceded_by, stopped}
use Rattle.t3_run.specs.Running.{Outside, HasRunInto}
use Rattle.t3_run.specs.Inner.Playing.{Play, HasPlayed, Rests, IsReadingOf, world_of, StepsLeft, EventLeft, AnswerLeft, LineLeft, AskLeft, StopLeft, IsStopped, IsFinished}
use Rattle.t3_run.specs.declared.turn.Turn.TheVariants as turns
use Rattle.t3_run.proofs.Shown.{shows_nothing}
use Rattle.t3_run.proofs.Asks.{asks-none}
use Rattle.t3_run.proofs.Runs.{go_and, some_run, some_taken, some_answer, some_event, no_step_left}
use Rattle.t3_run.proofs.PlayedActs.{played-as, played-into, Behind, IsTold}

-- ---- what is the rest

-- a text that was said
pub said-behind : (play : Play) (left : ℕ) (reader : ReaderValue) (state : State) (text piece : List ℕ) (given : ℕ)
    → Behind play (Shows (said_out play.width text piece) ∷ []) reader (EventLeft play left (Said piece) (world_of state text given))
    (StepsLeft play left (world_of state (text ++ piece) given))
said-behind play left reader state text piece given files terms width input rest next =
    (rest, next, ap (λ w. preceded_by (Shows (said_out w text piece) ∷ []) rest) (sym width))

-- the rest of what was said, before a line is asked for
pub rest-behind : (play : Play) (left : ℕ) (reader : ReaderValue) (state : State) (text : List ℕ) (given : ℕ)
    → Behind play (Shows (rest_out play.width text) ∷ []) reader (EventLeft play left WantLine (world_of state text given))
    (AskLeft play left (world_of state [] given))
rest-behind play left reader state text given files terms width input rest (behind, takes, is) = (
  behind,
  takes,
  ap (preceded_by (Shows (rest_out play.width text) ∷ [])) is
      ∙ ap (λ w. preceded_by (Shows (rest_out w text) ∷ Asks ∷ []) behind) (sym width),
)

-- a file that is put
pub put-behind : (play : Play) (left : ℕ) (reader : ReaderValue) (state : State) (text : List ℕ) (given : ℕ) (name bytes : List ℕ)
    → Behind play (Puts name bytes ∷ []) reader (EventLeft play left (WantPut name bytes) (world_of state text given))
    (AnswerLeft play left inputs.Stored (world_of state text given))
put-behind play left reader state text given name bytes files terms width input rest next = (rest, next, refl)

pub some_steps : (play : Play) (left : ℕ) (world : Option Files → World) (files : Option Files) (terms : Terms)
    → (rest : Ran) × StepsLeft play left world files terms rest
some_steps play left world files terms = some_run terms play.program left (world files)

pub some_finish : (play : Play) (left : ℕ) (input : Input) (world : Option Files → World) (files : Option Files) (terms : Terms)
    → (rest : Ran) × AnswerLeft play left input world files terms rest
some_finish play left input world files terms = some_answer terms play.program left input (world files)

pub some_rest : (play : Play) (left : ℕ) (event : Event) (world : Option Files → World) (files : Option Files) (terms : Terms)
    → (rest : Ran) × EventLeft play left event world files terms rest
some_rest play left event world files terms = some_event terms play.program left event (world files)

pub some_ask : (play : Play) (left : ℕ) (world : Option Files → World) (files : Option Files) (terms : Terms)
    → (rest : Ran) × AskLeft play left world files terms rest
some_ask play left world files terms =
    let behind = some_taken terms play.program left (wanted_line terms.input (world files).given) (world files) in
    (preceded_by (Asks ∷ []) behind.0, (behind.0, behind.1, refl))

-- the line that was asked for
pub line-behind : (play : Play) (left : ℕ) (reader : ReaderValue) (line : WantedLine) (state : State) (given : ℕ)
    → ((input : List ℕ) → IsInputOf reader input → line ≡ wanted_line input given)
    → Behind play (Asks ∷ []) reader (AskLeft play left (world_of state [] given)) (LineLeft play left line (world_of state [] given))
line-behind play left reader line state given is files terms width input rest takes = (
  rest,
  subst (λ (l : WantedLine). TakesLine (Runs terms play.program left) terms play.program l (world_of state [] given files) rest)
      (is terms.input input) takes,
  refl,
)

-- whatever line it is
abbrev pub AnyLineLeft : Play → ℕ → (Option Files → World) → Rests
AnyLineLeft play left world files terms rest = LineLeft play left (wanted_line terms.input (world files).given) world files terms rest

pub any-behind : (play : Play) (left : ℕ) (reader : ReaderValue) (state : State) (given : ℕ)
    → Behind play (Asks ∷ []) reader (AskLeft play left (world_of state [] given)) (AnyLineLeft play left (world_of state [] given))
any-behind play left reader state given files terms width input rest takes = (rest, takes, refl)

-- ---- a file that is wanted

told_of_file : (found : Option (List ℕ)) → IsFileInput (file_input found)
told_of_file None = tt
told_of_file (Some bytes) = tt

gives_file : (files now : Option Files) (name : List ℕ) (found : Option (Vec ℕ)) → IsTold files now → ReadsFile now name (Ok found)
    → GivesFile files name (file_input (option_map vec_items found))
gives_file None now name found told reads = told_of_file (option_map vec_items found)
gives_file (Some files) now name found told reads =
    ap file_input (subst (λ (n : Option Files). ReadsFile n name (Ok found)) told reads)

-- what was read of it is given
pub file-given : (play : Play) (left : ℕ) (reader : ReaderValue) (state : State) (text : List ℕ) (given count : ℕ) (name : List ℕ)
    (found : Option (Vec ℕ)) (pending : List ℕ) (now : Outside) → ReadsFile now.files name (Ok found)
    → HasPlayed play (EventLeft play left (WantGet name) (world_of state text given)) count pending reader now
    → HasPlayed play (AnswerLeft play left (file_input (option_map vec_items found)) (world_of state text given)) count pending reader now
file-given play left reader state text given count name found pending now reads played =
    let input = file_input (option_map vec_items found) in
    played-as play (EventLeft play left (WantGet name) (world_of state text given)) (AnswerLeft play left input (world_of state text given)) count pending
    reader now (λ files told terms width of rest answered. (input, gives_file files now.files name found told reads, answered)) played

-- ---- an instruction that waited is finished

-- the run goes on
pub answer-goes : (play : Play) (left : ℕ) (reader : ReaderValue) (input : Input) (old new : MachineValue) (text : List ℕ) (given count : ℕ)
    (pending : List ℕ) (now : Outside) → old.program ≡ play.program → IsFinished old input (turns.Goes new)
    → HasPlayed play (AnswerLeft play left input (world_of old.state text given)) count pending reader now
    → HasPlayed play (StepsLeft play left (world_of new.state text given)) count pending reader now
answer-goes play left reader input old new text given count pending now own finished played =
    played-as play (AnswerLeft play left input (world_of old.state text given)) (StepsLeft play left (world_of new.state text given)) count pending
    reader now
    (λ files told terms width of rest runs. (
      record { state = new.state; event = Went },
      subst (λ (p : ProgramValue). StepsBy p input old.state (record { state = new.state; event = Went })) own finished.1,
      runs,
    )) played

-- it has ended at once
pub answer-stops : (play : Play) (left : ℕ) (reader : ReaderValue) (input : Input) (old last : MachineValue) (stop : Stop) (text : List ℕ)
    (given count : ℕ) (pending : List ℕ) (now : Outside) → old.program ≡ play.program → IsFinished old input (turns.Stops last stop)
    → HasPlayed play (AnswerLeft play left input (world_of old.state text given)) count pending reader now
    → IsStopped play stop last.state text pending reader now
answer-stops play left reader input old last stop text given count pending now own (end, steps, is) played =
    record {
      given = given;
      count = count;
      played =
          played-as play (AnswerLeft play left input (world_of old.state text given)) (StopLeft stop (world_of last.state text given)) count pending
          reader now
          (λ files told terms width of rest same. (
            record { state = last.state; event = Ended end },
            subst (λ (p : ProgramValue). StepsBy p input old.state (record { state = last.state; event = Ended end })) own steps,
            same ∙ ap (λ (s : Stop). stopped terms s (world_of last.state text given files)) is,
          )) played;
    }

-- ---- begin and end

-- nothing was done yet
pub played-none : (play : Play) (state : State) → state ≡ initial play.program
    → HasPlayed play (StepsLeft play play.steps (world_of state [] 0)) 0 [] new_reader play.before
played-none play state is = record {
  acts = [];
  done = [];
  recent = [];
  acts_are = refl;
  unput = tt;
  said = [];
  is = refl;
  shown = [];
  shown_is = refl;
  leaves = stays play.before.files;
  asks = asks-none [] play.before.session play.before.session [] (shows_nothing play.before.session);
  reads = none play.before.session;
  counted = λ _. refl;
  onward = λ terms width input rest runs.
      subst (λ (s : State). Runs terms play.program play.steps (world_of s [] 0 play.before.files) rest) is runs;
}
  where
    none : (before : Option Session) → IsReadingOf before before new_reader
    none None = tt
    none (Some session) = (
      record { is = refl; ended = λ ended. absurd cc },
      λ running. record { added = []; asked = sym (append-nil session.asked); each = tt },
    )

    stays : (files : Option Files) → LeavesActs files files []
    stays None = tt
    stays (Some files) = refl

-- so many steps more were made
pub played-gone : (play : Play) (left made next : ℕ) (own : ProgramValue) (old new : State) (event : Event) (text : List ℕ) (given count : ℕ)
    (pending : List ℕ) (reader : ReaderValue) (now : Outside)
    → left ≡ made + next → own ≡ play.program → Goes own made old (record { state = new; event = event })
    → HasPlayed play (StepsLeft play left (world_of old text given)) count pending reader now
    → HasPlayed play (EventLeft play next event (world_of new text given)) count pending reader now
played-gone play left made next own old new event text given count pending reader now is same goes played =
    let gone = subst (λ (p : ProgramValue). Goes p made old (record { state = new; event = event })) same goes in
    played-as play (StepsLeft play left (world_of old text given)) (EventLeft play next event (world_of new text given)) count pending reader now
    (λ files told terms width input rest on. subst (λ n. Runs terms play.program n (world_of old text given files) rest) (sym is)
    (go_and terms play.program made next (world_of old text given files) new event rest gone on)) played

-- a step could not be made
pub steps-into : {F : Type 0} (play : Play) (left : ℕ) (world : Option Files → World) (count : ℕ) (pending : List ℕ) (reader : ReaderValue) (now : Outside)
    → HasPlayed play (StepsLeft play left world) count pending reader now
    → HasRunInto F play.program play.steps play.width play.before now
steps-into play left world count pending reader now played =
    played-into play (StepsLeft play left world) count pending reader now (some_steps play left world) played

-- no step is left
pub played-last : (play : Play) (left : ℕ) (state : State) (text : List ℕ) (given count : ℕ) (pending : List ℕ) (reader : ReaderValue) (now : Outside)
    → left ≡ 0 → HasPlayed play (StepsLeft play left (world_of state text given)) count pending reader now
    → HasPlayed play (StopLeft NoStep (world_of state text given)) count pending reader now
played-last play left state text given count pending reader now none played =
    played-as play (StepsLeft play left (world_of state text given)) (StopLeft NoStep (world_of state text given)) count pending reader now
    (λ files told terms width input rest same.
    let world = world_of state text given files in
    subst (λ (ran : Ran). Runs terms play.program left world ran) (sym same)
    (subst (λ n. Runs terms play.program n world (stopped terms NoStep world)) (sym none) (no_step_left terms play.program world))) played

-- the end is shown
abbrev pub last_ran : Stop → State → Ran
last_ran stop state = record { acts = []; stop = stop; last = state }

abbrev pub Nothing : Stop → State → Rests
Nothing stop state files terms rest = rest ≡ last_ran stop state

pub stop-behind : (play : Play) (reader : ReaderValue) (stop : Stop) (state : State) (text : List ℕ) (given : ℕ)
    → Behind play (Shows (close_out play.width text ++ end_line stop) ∷ []) reader (StopLeft stop (world_of state text given)) (Nothing stop state)
stop-behind play reader stop state text given files terms width input rest same =
    ap (preceded_by (Shows (close_out play.width text ++ end_line stop) ∷ [])) same
    ∙ ap (λ w. record { acts = Shows (close_out w text ++ end_line stop) ∷ []; stop = stop; last = state }) (sym width)
