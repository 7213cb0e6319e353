-- How what was shown and put follows an outcome.
use Rattle.std.proofs.Common.{◌≡◌, ◌≢◌, ℕ, List, [], ◌∷◌, ◌++◌, length, Option, Some, None, Result, Ok, Err, IfOk, refl, sym, ap, subst, ◌∙◌, inl, inr, append_assoc}
use Rattle.std.proofs.lemmas.List.{append-nil}
use Rattle.t3_io.specs.Files.{Files}
use Rattle.t3_io.specs.Session.{Session}
use Rattle.t3_io.specs.Putting.{PutsFile}
use Rattle.t3_io.specs.declared.refusal.DeviceRefusal.{DeviceRefusal}
use Rattle.t3_io.specs.declared.refusal.DeviceRefusal.TheVariants.{Fault}
use Rattle.t3_run.specs.declared.stop.RunEnd.{RunEnd}
use Rattle.t3_cli.specs.declared.status.Status.{Status}
use Rattle.t3_cli.specs.declared.status.Status.TheVariants.{Done, LoadRefused, DepotFault, NoMemory}
use Rattle.t3_run.specs.Act.{Act, Shows, Puts, shown_by, files_by, LeavesActs, StopsBehind}
use Rattle.t3_run.specs.Asking.{IsInput, AsksBy}
use Rattle.t3_run.specs.Running.{outside, end_at, HasRun, HasRunInto}
use Rattle.t3_run.proofs.Shown.{shows_nothing}
use Rattle.t3_run.proofs.Asks.{asks-none, asks-more, asks-longer}
use Rattle.t3_run.proofs.Acts.{shown_by-append, files_by-append}
use Rattle.t3_run.proofs.Cutting.{fails_by, behind_as, stops_before, stops_more}
use Rattle.t3_words.specs.Command.{CommandValue, RunOptions}
use Rattle.t3_cli.specs.declared.images.no_image.NoImage.{NoImage}
use Rattle.t3_words.specs.Input.{input_of}
use Rattle.t3_cli.specs.Plan.{Plan, Running, plan_of}
use Rattle.t3_cli.specs.Lines.{put_line, load_line, drill_line}
use Rattle.t3_image_read.specs.ImageText.{ImageValue}
use Rattle.t3_load.specs.declared.refusal.LoadRefusal.{LoadRefusal as LoadWhy}
use Rattle.t3_load.specs.declared.refusal.LoadRefusal.TheVariants.{NoMemory as NoRoom}
use Rattle.t3_load.specs.Rules.{Breaks as BreaksRule}
use Rattle.t3_load.specs.Loading.{ProgramValue, Loads}
use Rattle.t3_cli.specs.Outcome.{Outcome, showing, putting, acts_of, ran_outcome, status_of, IsImageOutcome, IsPlanOutcome, IsRunOutcome, IsLoaded, fingerprint_of, run_limits}
use Rattle.t3_cli.specs.Top.{CutsShort, IsShown}
use Rattle.t3_cli.specs.Inner.Showing.{AnswersLine, ShowsOrWants}
use Rattle.t3_cli.specs.Inner.Following.{Follows, FollowsSome, Breaks, CarriesOutCommand, IsProgramOutcome, IsClosed}
use Rattle.t3_cli.specs.Inner.Reading.{BeginsBy}
use Rattle.t3_cli.proofs.Results.{some_run_outcome}

-- ---- acts, and a text behind them

leaves_text : (files left : Option Files) (acts : List Act) (text : List ℕ) → LeavesActs files left acts → LeavesActs files left (acts ++ Shows text ∷ [])
leaves_text None left acts text leaves = tt
leaves_text (Some files) left acts text leaves = leaves ∙ ap Some (sym (files_by-append files acts (Shows text ∷ [])))

-- so much of the text was shown
stops_text : (F : Type 0) (files left : Option Files) (acts : List Act) (text part rest said : List ℕ) → LeavesActs files left acts → text ≡ part ++ rest
    → said ≡ shown_by acts ++ part → StopsBehind F files acts (Shows text ∷ []) left said
stops_text F None left acts text part rest said leaves is said_is = tt
stops_text F (Some files) left acts text part rest said leaves is said_is =
    (leaves, record { part = part; rest = rest; is = is; said_is = said_is })

-- the acts were done, and then the text was shown, or no memory was there for it
pub behind_follows : (acts : List Act) (files left : Option Files) (before mid after : Option Session) (text : List ℕ) (status answer : Status)
    → LeavesActs files left acts → AsksBy acts before mid (shown_by acts) → ShowsOrWants mid after text status answer
    → Follows (record { status = status; acts = acts ++ Shows text ∷ [] }) files left before after answer
behind_follows acts files left before mid after text status answer leaves asks (inl (inl whole)) =
    let said : shown_by acts ++ text ≡ shown_by (acts ++ Shows text ∷ []) =
    ap (λ t. shown_by acts ++ t) (sym (append-nil text)) ∙ sym (shown_by-append acts (Shows text ∷ [])) in
    inl (record {
      status = whole.same;
      leaves = leaves_text files left acts text leaves;
      asks =
          subst (λ (s : List ℕ). AsksBy (acts ++ Shows text ∷ []) before after s) said
          (asks-more acts (Shows text ∷ []) before mid after (shown_by acts) text asks whole.shows);
    })
behind_follows acts files left before mid after text status answer leaves asks (inl (inr cut)) =
    let prefix = cut.prefix in
    inr (record {
      cut = cut.cut;
      done = acts;
      rest = Shows text ∷ [];
      acts_are = refl;
      said = shown_by acts ++ cut.said;
      stops = stops_text (answer ≡ DepotFault) files left acts text prefix.part prefix.rest (shown_by acts ++ cut.said) leaves prefix.is
          (ap (λ t. shown_by acts ++ t) prefix.said_is);
      asks = asks-more acts (Shows text ∷ []) before mid after (shown_by acts) cut.said asks cut.shows;
    })
behind_follows acts files left before mid after text status answer leaves asks (inr (wants, stays)) =
    inr (record {
      cut = subst CutsShort (sym wants) tt;
      done = acts;
      rest = Shows text ∷ [];
      acts_are = refl;
      said = shown_by acts;
      stops = stops_text (answer ≡ DepotFault) files left acts text [] text (shown_by acts) leaves refl (sym (append-nil (shown_by acts)));
      asks =
          subst (λ (s : Option Session). AsksBy (acts ++ Shows text ∷ []) before s (shown_by acts)) (sym stays)
          (asks-longer acts (Shows text ∷ []) before mid (shown_by acts) asks);
    })

-- with nothing before it
leaves_none : (files : Option Files) → LeavesActs files files []
leaves_none None = tt
leaves_none (Some files) = refl

pub text_follows : (files : Option Files) (before after : Option Session) (text : List ℕ) (status answer : Status)
    → ShowsOrWants before after text status answer → Follows (showing status text) files files before after answer
text_follows files before after text status answer shown =
    behind_follows [] files files before before after text status answer (leaves_none files) (asks-none [] before before [] (shows_nothing before)) shown

-- a line with a known text is shown, or there was no memory for it
pub shows_line : {Line Error : Type 0}
    → (text_of : Line → List ℕ) (before after : Option Session) (line : Result Line Error) (text : List ℕ) (status answer : Status)
    → IfOk line (λ l. text_of l ≡ text) → AnswersLine text_of before after line status answer → ShowsOrWants before after text status answer
shows_line text_of before after (Ok line) text status answer is answers =
    let P : List ℕ → Type 0 = λ t. IsShown before after t status answer in inl (subst P is answers)
shows_line text_of before after (Err e) text status answer is answers = inr answers

-- a command that shows one line
pub line_follows : {Line Error : Type 0}
    → (text_of : Line → List ℕ) (files : Option Files) (before after : Option Session) (line : Result Line Error) (text : List ℕ)
    (status answer : Status)
    → IfOk line (λ l. text_of l ≡ text) → AnswersLine text_of before after line status answer
    → Follows (showing status text) files files before after answer
line_follows text_of files before after line text status answer is answers =
    text_follows files before after text status answer (shows_line text_of before after line text status answer is answers)

-- ---- a file that is put, and then a line

leaves_put : (files left : Option Files) (name bytes : List ℕ) → PutsFile files left name bytes (Ok tt)
    → LeavesActs files left (Puts name bytes ∷ [])
leaves_put None left name bytes puts = tt
leaves_put (Some files) left name bytes puts = puts

pub put_follows : {Line Error : Type 0}
    → (text_of : Line → List ℕ) (files left : Option Files) (name bytes : List ℕ) (before after : Option Session) (line : Result Line Error)
    (answer : Status)
    → PutsFile files left name bytes (Ok tt) → IfOk line (λ l. text_of l ≡ put_line (length bytes))
    → AnswersLine text_of before after line Done answer
    → Follows (putting name bytes) files left before after answer
put_follows text_of files left name bytes before after line answer puts is answers =
    behind_follows (Puts name bytes ∷ []) files left before before after (put_line (length bytes)) Done answer (leaves_put files left name bytes puts)
    (asks-none (Puts name bytes ∷ []) before before [] (shows_nothing before))
    (shows_line text_of before after line (put_line (length bytes)) Done answer is answers)

stops_putting : {F : Type 0} (files left : Option Files) (name bytes : List ℕ) (rest : List Act) (refusal : DeviceRefusal) → (refusal ≡ Fault → F)
    → PutsFile files left name bytes (Err refusal) → StopsBehind F files [] (Puts name bytes ∷ rest) left []
stops_putting None left name bytes rest refusal faulted puts = tt
stops_putting (Some files) left name bytes rest refusal faulted puts = (fails_by files left name bytes refusal faulted puts, refl)

-- the file couldn't be put
pub put_cut : (files left : Option Files) (name bytes : List ℕ) (before : Option Session) (refusal : DeviceRefusal) (answer : Status)
    → (refusal ≡ Fault → answer ≡ DepotFault)
    → PutsFile files left name bytes (Err refusal) → CutsShort answer → Follows (putting name bytes) files left before before answer
put_cut files left name bytes before refusal answer faulted puts cut =
    let rest = Shows (put_line (length bytes)) ∷ [] in
    inr (record {
      cut =
          cut;
      done = [];
      rest = Puts name bytes ∷ rest;
      acts_are = refl;
      said = [];
      stops = stops_putting files left name bytes rest refusal faulted puts;
      asks = asks-none (Puts name bytes ∷ rest) before before [] (shows_nothing before);
    })

-- ---- nothing was done yet

-- an input that a console may have
pub input_in : (session : Option Session) → (input : List ℕ) × IsInput session input
input_in None = ([], tt)
input_in (Some session) = (session.left, refl)

stops_at_once : (F : Type 0) (files : Option Files) (acts : List Act) → StopsBehind F files [] acts files []
stops_at_once F None acts = tt
stops_at_once F (Some files) acts = stops_before F files [] acts

cut_at_once : (acts : List Act) (files : Option Files) (before : Option Session) (answer : Status) → CutsShort answer
    → Breaks acts files files before before answer
cut_at_once acts files before answer cut = record {
  cut = cut;
  done = [];
  rest = acts;
  acts_are = refl;
  said = [];
  stops = stops_at_once (answer ≡ DepotFault) files acts;
  asks = asks-none acts before before [] (shows_nothing before);
}

-- ---- a run

-- one that ended, behind which a drill's line was shown
pub run_follows : (program : ProgramValue) (options : RunOptions) (actions : Option ℕ) (files left : Option Files) (before mid after : Option Session)
    (ended : RunEnd) (answer : Status) → HasRun program options.steps options.width (outside files before) (outside left mid) ended
    → IsClosed mid after actions ended answer → FollowsSome (IsProgramOutcome program options actions) files left before after answer
run_follows program options actions files left before mid after ended answer run closed =
    (run.run.input, run.run.is_input, ran_outcome actions run.ran, (run.ran, run.run.runs, refl), by actions closed)
  where
    ran_end : RunEnd
    ran_end = end_at run.ran.stop run.ran.last

    by : (actions : Option ℕ) → IsClosed mid after actions ended answer → Follows (ran_outcome actions run.ran) files left before after answer
    by None (status, stays) =
        inl (record {
          status = status ∙ ap (λ (e : RunEnd). status_of e.stop) run.end_is;
          leaves = run.leaves;
          asks = subst (λ (s : Option Session). AsksBy run.ran.acts before s (shown_by run.ran.acts)) (sym stays) run.asks;
        })
    by (Some actions) shown =
        behind_follows run.ran.acts files left before mid after (drill_line actions ran_end) (status_of ran_end.stop) answer run.leaves run.asks
        (subst (λ (e : RunEnd). ShowsOrWants mid after (drill_line actions e) (status_of e.stop) answer) run.end_is shown)

stops_longer : (F : Type 0) (files left : Option Files) (done rest more : List Act) (said : List ℕ) → StopsBehind F files done rest left said
    → StopsBehind F files done (rest ++ more) left said
stops_longer F None left done rest more said stops = tt
stops_longer F (Some files) left done rest more said stops = stops_more F (files_by files done) (shown_by done) rest more left said stops

-- one that was cut short
pub run_cut : {F : Type 0} (program : ProgramValue) (options : RunOptions) (actions : Option ℕ) (files left : Option Files) (before after : Option Session)
    (answer : Status) → (F → answer ≡ DepotFault) → HasRunInto F program options.steps options.width (outside files before) (outside left after)
    → CutsShort answer
    → FollowsSome (IsProgramOutcome program options actions) files left before after answer
run_cut program options actions files left before after answer faulted run cut =
    (run.run.input, run.run.is_input, ran_outcome actions run.ran, (run.ran, run.run.runs, refl), inr (by actions))
  where
    stops : StopsBehind (answer ≡ DepotFault) files run.done run.rest left run.said
    stops = behind_as faulted files run.done run.rest left run.said run.stops

    by : (actions : Option ℕ) → Breaks (acts_of actions run.ran) files left before after answer
    by None = record {
      cut = cut;
      done = run.done;
      rest = run.rest;
      acts_are = run.acts_are;
      said = run.said;
      stops = stops;
      asks = run.asks;
    }
    by (Some actions) =
        let line = Shows (drill_line actions (end_at run.ran.stop run.ran.last)) ∷ [] in
        record {
          cut = cut;
          done = run.done;
          rest = run.rest ++ line;
          acts_are = ap (λ a. a ++ line) run.acts_are ∙ append_assoc run.done run.rest line;
          said = run.said;
          stops = stops_longer (answer ≡ DepotFault) files left run.done run.rest line run.said stops;
          asks = asks-longer run.ran.acts line before after run.said run.asks;
        }

-- an image that loads is run as its program
pub image_follows : (image : ImageValue) (program : ProgramValue) (options : RunOptions) (actions : Option ℕ) (files left : Option Files)
    (before after : Option Session) (answer : Status) → IsLoaded options image (Ok program)
    → FollowsSome (IsProgramOutcome program options actions) files left before after answer
    → FollowsSome (IsRunOutcome options actions image) files left before after answer
image_follows image program options actions files left before after answer loaded (input, is_input, outcome, (ran, runs, is), follows) =
    (input, is_input, outcome, inr (ran, record { program = program; loaded = loaded; runs = runs }, is), follows)

-- no memory was there to load it
loading_cut : (image : ImageValue) (options : RunOptions) (actions : Option ℕ) (files : Option Files) (before : Option Session) (answer : Status)
    → CutsShort answer → FollowsSome (IsRunOutcome options actions image) files files before before answer
loading_cut image options actions files before answer cut =
    let input = input_in before in
    let some = some_run_outcome options actions image files input.0 in
    (input.0, input.1, some.0, some.1, inr (cut_at_once some.0.acts files before answer cut))

-- of one that doesn't a line says why, unless no memory was there
pub unloaded_follows : (image : ImageValue) (why : LoadWhy) (options : RunOptions) (actions : Option ℕ) (files : Option Files)
    (before after : Option Session) (answer : Status) → Loads image.blocks (fingerprint_of image) (run_limits options) (Err why)
    → (why ≡ NoRoom → (answer ≡ NoMemory) × (after ≡ before))
    → (why ≢ NoRoom → ShowsOrWants before after (load_line why) LoadRefused answer)
    → FollowsSome (IsRunOutcome options actions image) files files before after answer
unloaded_follows image why options actions files before after answer (inl none) wants shown =
    let wanting = wants none in
    subst (λ session. FollowsSome (IsRunOutcome options actions image) files files before session answer) (sym wanting.1)
    (loading_cut image options actions files before answer (subst CutsShort (sym wanting.0) tt))
unloaded_follows image why options actions files before after answer (inr (broken, kept)) wants shown =
    let known : why ≢ NoRoom = λ is. subst (BreaksRule image.blocks (run_limits options)) is broken in
    let refused : ◌≢◌ {A = Result ProgramValue LoadWhy} (Err why) (Err NoRoom) = λ same. known cc in
    let input = input_in before in (
      input.0,
      input.1,
      showing LoadRefused (load_line why),
      inl (why, (refused, inr (broken, kept)), refl),
      text_follows files before after (load_line why) LoadRefused answer (shown known),
    )

-- ---- a command with its image

-- a command that was carried out by the image that it begins with
pub carried_by : (command : CommandValue) (image : ImageValue) (outcome : Outcome) (files left : Option Files)
    (before after : Option Session)
    (answer : Status) → BeginsBy (input_of command) files image → ((input : List ℕ) → IsImageOutcome command image files input outcome)
    → Follows outcome files left before after answer → CarriesOutCommand command files left before after (Ok answer)
carried_by command image outcome files left before after answer begins gives follows =
    let input = input_in before in
    (input.0, input.1, outcome, (image, begins, gives input.0), follows)

-- one that shows a line of it
pub shown_by_image : {Line Error : Type 0}
    → (text_of : Line → List ℕ) (command : CommandValue) (image : ImageValue) (text : List ℕ) (files left : Option Files)
    (before after : Option Session) (line : Result Line Error) (answer : Status) → BeginsBy (input_of command) files image → left ≡ files
    → ((input : List ℕ) → IsImageOutcome command image files input (showing Done text))
    → IfOk line (λ l. text_of l ≡ text) → AnswersLine text_of before after line Done answer
    → CarriesOutCommand command files left before after (Ok answer)
shown_by_image text_of command image text files left before after line answer begins same gives told answers =
    carried_by command image (showing Done text) files left before after answer begins gives
    (subst (λ (f : Option Files). Follows (showing Done text) files f before after answer) (sym same)
    (line_follows text_of files before after line text Done answer told answers))

-- one that runs it
pub run_by_image : (command : CommandValue) (image : ImageValue) (options : RunOptions) (actions : Option ℕ) (files left : Option Files)
    (before after : Option Session) (answer : Status) → BeginsBy (input_of command) files image
    → plan_of command image ≡ Running options actions
    → FollowsSome (IsRunOutcome options actions image) files left before after answer
    → CarriesOutCommand command files left before after (Ok answer)
run_by_image command image options actions files left before after answer begins planned (input, is_input, outcome, gives, follows) = (
  input,
  is_input,
  outcome,
  (image, begins, subst (λ (plan : Plan). IsPlanOutcome plan image files input outcome) (sym planned) gives),
  follows,
)

-- what was put after a file was read
pub put_by_image : (command : CommandValue) (image : ImageValue) (out bytes : List ℕ) (files read left : Option Files)
    (before after : Option Session) (answer : Status) → BeginsBy (input_of command) files image → read ≡ files
    → ((input : List ℕ) → IsImageOutcome command image files input (putting out bytes))
    → Follows (putting out bytes) read left before after answer → CarriesOutCommand command files left before after (Ok answer)
put_by_image command image out bytes files read left before after answer begins same gives follows =
    carried_by command image (putting out bytes) files left before after answer begins gives
    (subst (λ (f : Option Files). Follows (putting out bytes) f left before after answer) same follows)

-- a command as it was matched
pub matched_command : (command is : CommandValue) (files left : Option Files) (before after : Option Session)
    (answer : Result Status NoImage)
    → command ≡ is → CarriesOutCommand is files left before after answer → CarriesOutCommand command files left before after answer
matched_command command is files left before after answer same carries =
    subst (λ (c : CommandValue). CarriesOutCommand c files left before after answer) (sym same) carries
