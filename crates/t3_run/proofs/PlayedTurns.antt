-- What a turn makes of a play: one that says, one that asks and is given a line, one that puts a file, and one that is given a file.
use Rattle.std.proofs.Common.{◌≡◌, ◌≢◌, ℕ, ◌+◌, ◌≤◌, true, false, List, [], ◌∷◌, ◌++◌, length, Option, Ok, Err, refl, sym, subst, ◌∙◌, arith}
use Rattle.std.specs.Global.{Vec}
use Rattle.std.specs.Option.{option_map}
use Rattle.std.specs.Vec.{vec_items}
use Rattle.std.proofs.lemmas.List.{append-nil}
use Rattle.t3_io.specs.Files.{Files}
use Rattle.t3_io.specs.Session.{Session}
use Rattle.t3_io.specs.Putting.{PutsFile}
use Rattle.t3_io.specs.declared.refusal.DeviceRefusal.{DeviceRefusal}
use Rattle.t3_io.specs.declared.refusal.DeviceRefusal.TheVariants.{Fault}
use Rattle.t3_console.specs.Output.{said_out, rest_out}
use Rattle.t3_files.specs.Reading.{ReadsFile}
use Rattle.t3_lines.specs.Lines.{limit, wanted_line}
use Rattle.t3_lines.specs.Reader.{ReaderValue, IsInputOf, Takes}
use Rattle.t3_lines.specs.declared.line.WantedLine.{WantedLine}
use Rattle.t3_lines.specs.declared.line.WantedLine.TheVariants as lines
use Rattle.t3_interp.specs.declared.event.End.{End}
use Rattle.t3_interp.specs.declared.event.Event.{Event}
use Rattle.t3_interp.specs.declared.event.Event.TheVariants.{Went, Said, WantLine, WantPut, WantGet, Ended}
use Rattle.t3_interp.specs.declared.event.Input.{Input}
use Rattle.t3_interp.specs.declared.event.Input.TheVariants as inputs
use Rattle.t3_interp.specs.Wanting.{HasFrame, AnswersOn}
use Rattle.t3_interp.proofs.Runs.{input_answers}
use Rattle.t3_run.specs.declared.screen.Screen.{Screen}
use Rattle.t3_interp.specs.Machine.{State, MachineValue}
use Rattle.t3_interp.specs.Step.{StepsBy}
use Rattle.t3_run.specs.declared.stop.Stop.TheVariants.{NoLine}
use Rattle.t3_run.specs.Act.{Shows, shown_by}
use Rattle.t3_run.specs.Run.{file_input}
use Rattle.t3_run.specs.Running.{Outside, outside, HasRunInto}
use Rattle.t3_run.specs.Inner.Playing.{Shifts, Play, HasPlayed, world_of, StepsLeft, EventLeft, AnswerLeft, LineLeft, AskLeft, IsPageOf, IsStopped, IsFinished, Turns}
use Rattle.t3_run.specs.declared.turn.Turn.{Turn}
use Rattle.t3_run.specs.declared.turn.Turn.TheVariants as turns
use Rattle.t3_run.proofs.PlayedActs.{played-more, played-line, played-put, played-counted, played-into, shifted-into, put-into}
use Rattle.t3_run.proofs.PlayedRests.{said-behind, rest-behind, put-behind, some_steps, some_finish, some_ask, some_rest, line-behind, any-behind, AnyLineLeft, file-given, answer-goes, answer-stops}
use Rattle.t3_run.proofs.Runs.{some_taken}

-- ---- a turn that says

pub text_alone : (text : List ℕ) → shown_by (Shows text ∷ []) ≡ text
text_alone text = append-nil text

pub said-into : {F : Type 0} (play : Play) (left : ℕ) (reader : ReaderValue) (state : State) (text piece : List ℕ) (screen : Screen) (pending : List ℕ)
    (files : Option Files) (mid after : Option Session) → IsPageOf play screen text
    → HasPlayed play (EventLeft play left (Said piece) (world_of state text reader.given)) reader.given screen.out.items reader (outside files mid)
    → Shifts mid after screen.out.items (said_out screen.page.width text piece) pending
    → HasRunInto F play.program play.steps play.width play.before (outside files after)
said-into play left reader state text piece screen pending files mid after page played shifts =
    let world = world_of state (text ++ piece) reader.given in
    shifted-into play (EventLeft play left (Said piece) (world_of state text reader.given)) (StepsLeft play left world) reader.given
    (Shows (said_out play.width text piece) ∷ []) screen.out.items (said_out play.width text piece) pending reader files mid after refl tt
    (text_alone (said_out play.width text piece)) (said-behind play left reader state text piece reader.given) (some_steps play left world) played
    (subst (λ w. Shifts mid after screen.out.items (said_out w text piece) pending) page.width shifts)

pub said-goes : (play : Play) (left : ℕ) (reader : ReaderValue) (state : State) (text piece : List ℕ) (screen : Screen) (pending : List ℕ)
    (files : Option Files) (mid after : Option Session) → IsPageOf play screen text
    → HasPlayed play (EventLeft play left (Said piece) (world_of state text reader.given)) reader.given screen.out.items reader (outside files mid)
    → Shifts mid after screen.out.items (said_out screen.page.width text piece) pending
    → HasPlayed play (StepsLeft play left (world_of state (text ++ piece) reader.given)) reader.given pending reader (outside files after)
said-goes play left reader state text piece screen pending files mid after page played shifts =
    played-more play (EventLeft play left (Said piece) (world_of state text reader.given))
    (StepsLeft play left (world_of state (text ++ piece) reader.given)) reader.given
    (Shows (said_out play.width text piece) ∷ []) screen.out.items (said_out play.width text piece) pending reader files mid after refl tt
    (text_alone (said_out play.width text piece)) (said-behind play left reader state text piece reader.given) played
    (subst (λ w. Shifts mid after screen.out.items (said_out w text piece) pending) page.width shifts)

-- ---- a turn that asks

pub rest-into : {F : Type 0} (play : Play) (left : ℕ) (reader : ReaderValue) (state : State) (text : List ℕ) (screen : Screen) (pending : List ℕ)
    (files : Option Files) (mid after : Option Session) → IsPageOf play screen text
    → HasPlayed play (EventLeft play left WantLine (world_of state text reader.given)) reader.given screen.out.items reader (outside files mid)
    → Shifts mid after screen.out.items (rest_out screen.page.width text) pending
    → HasRunInto F play.program play.steps play.width play.before (outside files after)
rest-into play left reader state text screen pending files mid after page played shifts =
    shifted-into play (EventLeft play left WantLine (world_of state text reader.given)) (AskLeft play left (world_of state [] reader.given))
    reader.given (Shows (rest_out play.width text) ∷ []) screen.out.items (rest_out play.width text) pending reader files mid after refl tt
    (text_alone (rest_out play.width text)) (rest-behind play left reader state text reader.given)
    (some_ask play left (world_of state [] reader.given)) played
    (subst (λ w. Shifts mid after screen.out.items (rest_out w text) pending) page.width shifts)

pub rest-asks : (play : Play) (left : ℕ) (reader : ReaderValue) (state : State) (text : List ℕ) (screen : Screen) (pending : List ℕ)
    (files : Option Files) (mid after : Option Session) → IsPageOf play screen text
    → HasPlayed play (EventLeft play left WantLine (world_of state text reader.given)) reader.given screen.out.items reader (outside files mid)
    → Shifts mid after screen.out.items (rest_out screen.page.width text) pending
    → HasPlayed play (AskLeft play left (world_of state [] reader.given)) reader.given pending reader (outside files after)
rest-asks play left reader state text screen pending files mid after page played shifts =
    played-more play (EventLeft play left WantLine (world_of state text reader.given)) (AskLeft play left (world_of state [] reader.given))
    reader.given (Shows (rest_out play.width text) ∷ []) screen.out.items (rest_out play.width text) pending reader files mid after refl tt
    (text_alone (rest_out play.width text)) (rest-behind play left reader state text reader.given) played
    (subst (λ w. Shifts mid after screen.out.items (rest_out w text) pending) page.width shifts)

-- ---- an instruction that waited is finished

-- with nothing asked or put
pub answer-finished : (play : Play) (left : ℕ) (machine : MachineValue) (reader : ReaderValue) (now : Outside) (input : Input) (text pending : List ℕ)
    (turn : Turn) → machine.program ≡ play.program → machine.state.steps + left ≡ play.steps
    → HasPlayed play (AnswerLeft play left input (world_of machine.state text reader.given)) reader.given pending reader now
    → IsFinished machine input turn → Turns play left text pending reader now turn
answer-finished play left machine reader now input text pending (turns.Goes next) own steps played finished =
    let counted = finished.3 in
    record {
      program = finished.0 ∙ own;
      wants = finished.2;
      made = omega (arith, counted, steps);
      played = answer-goes play left reader input machine next text reader.given reader.given pending now own finished played;
    }
answer-finished play left machine reader now input text pending (turns.Stops last stop) own steps played finished =
    answer-stops play left reader input machine last stop text reader.given reader.given pending now own finished played

-- ---- what a line that was wanted comes to

-- no line was given, or memory was wanting for it
pub line-into : {F : Type 0} (play : Play) (left : ℕ) (state : State) (old new : ReaderValue) (files : Option Files) (mid after : Option Session)
    → Takes old new mid after → length new.taken ≤ limit
    → HasPlayed play (AskLeft play left (world_of state [] old.given)) old.given [] old (outside files mid)
    → HasRunInto F play.program play.steps play.width play.before (outside files after)
line-into play left state old new files mid after takes few played =
    let world = world_of state [] old.given in
    played-into play (AnyLineLeft play left world) (old.given + 1) [] new (outside files after)
    (λ files terms. some_taken terms play.program left (wanted_line terms.input old.given) (world files))
    (played-line play (AskLeft play left world) (AnyLineLeft play left world) old new files mid after takes few
    (any-behind play left new state old.given) played)

-- that line was given
line-taken : (play : Play) (left : ℕ) (state : State) (old new : ReaderValue) (files : Option Files) (mid after : Option Session) (line : WantedLine)
    → Takes old new mid after → length new.taken ≤ limit → ((input : List ℕ) → IsInputOf new input → line ≡ wanted_line input old.given)
    → HasPlayed play (AskLeft play left (world_of state [] old.given)) old.given [] old (outside files mid)
    → HasPlayed play (LineLeft play left line (world_of state [] old.given)) (old.given + 1) [] new (outside files after)
line-taken play left state old new files mid after line takes few is played =
    played-line play (AskLeft play left (world_of state [] old.given)) (LineLeft play left line (world_of state [] old.given)) old new files mid after
    takes few (line-behind play left new line state old.given is) played

pub line-finished : (play : Play) (left : ℕ) (machine : MachineValue) (old new : ReaderValue) (files : Option Files) (mid after : Option Session)
    (line : List ℕ) (turn : Turn) → machine.program ≡ play.program → machine.state.steps + left ≡ play.steps → new.given ≡ old.given + 1
    → Takes old new mid after → length new.taken ≤ limit
    → ((input : List ℕ) → IsInputOf new input → lines.Line line ≡ wanted_line input old.given)
    → HasPlayed play (AskLeft play left (world_of machine.state [] old.given)) old.given [] old (outside files mid)
    → IsFinished machine (inputs.Line line) turn → Turns play left [] [] new (outside files after) turn
line-finished play left machine old new files mid after line turn own steps given takes few is played finished =
    let taken = line-taken play left machine.state old new files mid after (lines.Line line) takes few is played in
    answer-finished play left machine new (outside files after) (inputs.Line line) [] [] turn own steps
    (subst (λ n. HasPlayed play (AnswerLeft play left (inputs.Line line) (world_of machine.state [] n)) n [] new (outside files after)) (sym given) taken)
    finished

pub end-finished : (play : Play) (left : ℕ) (machine : MachineValue) (old new : ReaderValue) (files : Option Files) (mid after : Option Session)
    (turn : Turn) → machine.program ≡ play.program → machine.state.steps + left ≡ play.steps → new.given ≡ old.given → new.is_ended ≡ true
    → Takes old new mid after → length new.taken ≤ limit
    → ((input : List ℕ) → IsInputOf new input → lines.EndOfInput ≡ wanted_line input old.given)
    → HasPlayed play (AskLeft play left (world_of machine.state [] old.given)) old.given [] old (outside files mid)
    → IsFinished machine inputs.EndOfInput turn → Turns play left [] [] new (outside files after) turn
end-finished play left machine old new files mid after turn own steps given ended takes few is played finished =
    let Answers : ℕ → ℕ → Type 0 =
    λ n count. HasPlayed play (AnswerLeft play left inputs.EndOfInput (world_of machine.state [] n)) count [] new (outside files after) in
    let taken : Answers old.given (old.given + 1) =
    line-taken play left machine.state old new files mid after lines.EndOfInput takes few is played in
    let counted : Answers old.given old.given =
    played-counted play (AnswerLeft play left inputs.EndOfInput (world_of machine.state [] old.given)) (old.given + 1) old.given [] new
    (outside files after) (λ going. absurd (not_both (sym ended ∙ going))) taken in
    answer-finished play left machine new (outside files after) inputs.EndOfInput [] [] turn own steps
    (subst (λ n. Answers n n) (sym given) counted) finished
  where
    not_both : true ≡ false → ⊥
    not_both same = absurd cc

pub limit-stops : (play : Play) (left : ℕ) (machine : MachineValue) (old new : ReaderValue) (files : Option Files) (mid after : Option Session)
    → Takes old new mid after → length new.taken ≤ limit
    → ((input : List ℕ) → IsInputOf new input → lines.PastLimit ≡ wanted_line input old.given)
    → HasPlayed play (AskLeft play left (world_of machine.state [] old.given)) old.given [] old (outside files mid)
    → IsStopped play NoLine machine.state [] [] new (outside files after)
limit-stops play left machine old new files mid after takes few is played = record {
  given = old.given;
  count = old.given + 1;
  played = line-taken play left machine.state old new files mid after lines.PastLimit takes few is played;
}

-- ---- a turn that puts a file, with nothing pending

pub stored-into : {F : Type 0} (play : Play) (left : ℕ) (reader : ReaderValue) (state : State) (text name bytes : List ℕ) (mid after : Option Files)
    (session : Option Session) (e : DeviceRefusal) → (e ≡ Fault → F) → PutsFile mid after name bytes (Err e)
    → HasPlayed play (EventLeft play left (WantPut name bytes) (world_of state text reader.given)) reader.given [] reader (outside mid session)
    → HasRunInto F play.program play.steps play.width play.before (outside after session)
stored-into play left reader state text name bytes mid after session e faulted puts played =
    let world = world_of state text reader.given in
    put-into play (EventLeft play left (WantPut name bytes) world) (AnswerLeft play left inputs.Stored world) reader.given name bytes reader mid after
    session e faulted puts (put-behind play left reader state text reader.given name bytes) (some_finish play left inputs.Stored world) played

pub stored : (play : Play) (left : ℕ) (reader : ReaderValue) (state : State) (text name bytes : List ℕ) (mid after : Option Files)
    (session : Option Session) → PutsFile mid after name bytes (Ok tt)
    → HasPlayed play (EventLeft play left (WantPut name bytes) (world_of state text reader.given)) reader.given [] reader (outside mid session)
    → HasPlayed play (AnswerLeft play left inputs.Stored (world_of state text reader.given)) reader.given [] reader (outside after session)
stored play left reader state text name bytes mid after session puts played =
    let world = world_of state text reader.given in
    played-put play (EventLeft play left (WantPut name bytes) world) (AnswerLeft play left inputs.Stored world) reader.given name bytes reader mid after
    session puts (put-behind play left reader state text reader.given name bytes) played

-- memory was wanting to go on
pub answer-into : {F : Type 0} (play : Play) (left : ℕ) (reader : ReaderValue) (state : State) (input : Input) (text pending : List ℕ) (now : Outside)
    → HasPlayed play (AnswerLeft play left input (world_of state text reader.given)) reader.given pending reader now
    → HasRunInto F play.program play.steps play.width play.before now
answer-into play left reader state input text pending now played =
    let world = world_of state text reader.given in
    played-into play (AnswerLeft play left input world) reader.given pending reader now (some_finish play left input world) played

-- ---- a turn that is given a file

-- it couldn't be read
pub event-into : {F : Type 0} (play : Play) (left : ℕ) (reader : ReaderValue) (state : State) (event : Event) (text pending : List ℕ) (now : Outside)
    → HasPlayed play (EventLeft play left event (world_of state text reader.given)) reader.given pending reader now
    → HasRunInto F play.program play.steps play.width play.before now
event-into play left reader state event text pending now played =
    let world = world_of state text reader.given in
    played-into play (EventLeft play left event world) reader.given pending reader now (some_rest play left event world) played

-- the same files were told before and after
pub same-files : {F : Type 0} (play : Play) (old new : Option Files) (session : Option Session) → new ≡ old
    → HasRunInto F play.program play.steps play.width play.before (outside old session)
    → HasRunInto F play.program play.steps play.width play.before (outside new session)
same-files {F} play old new session same into =
    subst (λ (f : Option Files). HasRunInto F play.program play.steps play.width play.before (outside f session)) (sym same) into

pub given-file : (play : Play) (left : ℕ) (reader : ReaderValue) (state : State) (text name : List ℕ) (found : Option (Vec ℕ)) (input : Input)
    (pending : List ℕ) (old new : Option Files) (session : Option Session) → new ≡ old → ReadsFile old name (Ok found)
    → input ≡ file_input (option_map vec_items found)
    → HasPlayed play (EventLeft play left (WantGet name) (world_of state text reader.given)) reader.given pending reader (outside old session)
    → HasPlayed play (AnswerLeft play left input (world_of state text reader.given)) reader.given pending reader (outside new session)
given-file play left reader state text name found input pending old new session same reads input_is played =
    let given = file-given play left reader state text reader.given reader.given name found pending (outside old session) reads played in
    let Answers : Input → Option Files → Type 0 =
    λ i files. HasPlayed play (AnswerLeft play left i (world_of state text reader.given)) reader.given pending reader (outside files session) in
    subst (λ (f : Option Files). Answers input f) (sym same) (subst (λ (i : Input). Answers i old) (sym input_is) given)

-- ---- finishing

-- an instruction that waits is finished without an end: the machine goes on
pub finished-goes : (old new : MachineValue) (input : Input) (event : Event) → input ≢ inputs.Go → HasFrame old.state.frames
    → new.program ≡ old.program → StepsBy old.program input old.state (record { state = new.state; event = event }) → ((end : End) → event ≢ Ended end)
    → IsFinished old input (turns.Goes new)
finished-goes old new input event other framed own steps goes =
    by event steps goes (input_answers old.program input old.state (record { state = new.state; event = event }) framed other steps)
  where
    by : (event : Event) → StepsBy old.program input old.state (record { state = new.state; event = event }) → ((end : End) → event ≢ Ended end)
        → AnswersOn old.state.steps event new.state → IsFinished old input (turns.Goes new)
    by Went steps goes answers = (own, steps, answers.1, answers.0)
    by (Said said) steps goes answers = absurd answers
    by WantLine steps goes answers = absurd answers
    by (WantPut name bytes) steps goes answers = absurd answers
    by (WantGet name) steps goes answers = absurd answers
    by (Ended end) steps goes answers = absurd (goes end refl)
