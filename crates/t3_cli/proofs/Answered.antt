-- What followed an outcome of the words answers them.
use Rattle.std.proofs.Common.{◌≡◌, ◌≢◌, ℕ, List, [], Option, Some, None, Ok, Err, IfSome, refl, sym, ap, subst, ◌∙◌, inl, inr}
use Rattle.t3_io.specs.Files.{Files}
use Rattle.t3_io.specs.Session.{Session}
use Rattle.t3_io.specs.Cause.{MovesFaults}
use Rattle.t3_io.specs.declared.refusal.DeviceRefusal.TheVariants as device
use Rattle.t3_cli.specs.declared.images.no_image.NoImage.{NoImage}
use Rattle.t3_cli.specs.declared.images.no_image.NoImage.TheVariants as none
use Rattle.t3_cli.specs.declared.status.Status.{Status}
use Rattle.t3_cli.specs.declared.status.Status.TheVariants.{Done, Usage, Absent, ImageRefused, LoadRefused, SourceRefused, DepotFault}
use Rattle.t3_run.specs.declared.stop.Stop.{Stop}
use Rattle.t3_run.specs.declared.stop.Stop.TheVariants.{Ends}
use Rattle.t3_run.specs.Asking.{IsInput}
use Rattle.t3_run.specs.Act.{shown_by}
use Rattle.t3_run.proofs.Shown.{shows_nothing}
use Rattle.t3_run.proofs.Asks.{asks-none, asks-moves}
use Rattle.t3_interp.specs.declared.event.End.TheVariants as ends
use Rattle.t3_cli.specs.Cause.{Cause}
use Rattle.t3_image_read.specs.ImageText.{ImageValue}
use Rattle.t3_words.specs.Command.{CommandValue}
use Rattle.t3_cli.specs.Lines.{usage_line, absent_line, refused_line, bad_line}
use Rattle.t3_cli.specs.Plan.{Plan, Showing, Putting, Running, plan_of}
use Rattle.t3_cli.specs.Outcome.{Outcome, showing, IsResult, IsPlanOutcome, status_of}
use Rattle.t3_words.specs.Input.{InputFile, ImageFile, SourceFile, MadeImage, input_of, file_of}
use Rattle.t3_cli.specs.Cause.{HasImage}
use Rattle.t3_cli.specs.Inner.Reading.{BeginsBy}
use Rattle.t3_cli.specs.Top.{CountsFaults, CutsShort, IsWhole, IsCut, IsShown, MovesSome, HasExactCause}
use Rattle.t3_cli.specs.Inner.NoImage.{HasNoImage, device_answer}
use Rattle.t3_cli.specs.Inner.Showing.{ShowsOrWants}
use Rattle.t3_cli.specs.Inner.Following.{Answers, Follows, CarriesOutCommand, IsCommandOutcome, ShowsNoImage, FailsBy}
use Rattle.t3_cli.proofs.InputOutcomes.{absent_outcome, refused_outcome, bad_outcome, image_outcome}
use Rattle.t3_cli.proofs.Causes.{exact_cause, result_not_cut}
use Rattle.t3_cli.proofs.Followed.{input_in, text_follows}

answers_by : (command : Option CommandValue) (files : Files) (left : Option Files) (before after : Option Session) (answer : Status) (input : List ℕ)
    (outcome : Outcome) → IsInput before input → IsResult command files input outcome → Follows outcome (Some files) left before after answer
    → Answers command files before answer left after
answers_by command files left before after answer input outcome is_input result (inl whole) =
    inl (record {
      input = input;
      is_input = is_input;
      outcome = outcome;
      result = result;
      status = whole.status;
      files_are = whole.leaves;
      asks = whole.asks;
    })
answers_by command files left before after answer input outcome is_input result (inr breaks) =
    inr (
      breaks.cut,
      inr (record {
        input = input;
        is_input = is_input;
        outcome = outcome;
        result = result;
        done = breaks.done;
        rest = breaks.rest;
        acts_are = breaks.acts_are;
        said = breaks.said;
        stops = breaks.stops;
        asks = breaks.asks;
      }),
    )

pub some_nothing : (before : Option Session) → MovesSome before before
some_nothing before = ([], asks-moves [] before before [] (asks-none [] before before [] (shows_nothing before)))

pub shown_some : (before after : Option Session) (text : List ℕ) (status answer : Status) → IsShown before after text status answer
    → MovesSome before after
shown_some before after text status answer (inl whole) =
    (text, asks-moves [] before after text (asks-none [] before after text whole.shows))
shown_some before after text status answer (inr cut) =
    (cut.said, asks-moves [] before after cut.said (asks-none [] before after cut.said cut.shows))

-- ---- a command with its image

begins_has : (from : InputFile) (files : Files) (image : ImageValue) → BeginsBy from (Some files) image → HasImage from files image
begins_has (ImageFile name) files image begins = begins
begins_has (SourceFile name) files image begins = begins
begins_has (MadeImage number) files image begins = begins

-- an outcome of a command with its image is one of the words
command_result : (command : CommandValue) (files : Files) (input : List ℕ) (outcome : Outcome)
    → IsCommandOutcome command (Some files) input outcome → IsResult (Some command) files input outcome
command_result command files input outcome (image, has, gives) =
    image_outcome command (input_of command) files input image outcome (begins_has (input_of command) files image has) gives

pub command_answers : (command : CommandValue) (all left : Option Files) (before after : Option Session) (answer : Status)
    → CarriesOutCommand command all left before after (Ok answer)
    → IfSome all (λ files. Answers (Some command) files before answer left after)
command_answers command None left before after answer carries = tt
command_answers command (Some files) left before after answer (input, is_input, outcome, gives, follows) =
    answers_by (Some command) files left before after answer input outcome is_input
    (command_result command files input outcome gives) follows

pub command_moves : (command : CommandValue) (all left : Option Files) (before after : Option Session) (answer : Status)
    → CarriesOutCommand command all left before after (Ok answer) → MovesSome before after
command_moves command all left before after answer (input, is_input, outcome, gives, inl whole) =
    (shown_by outcome.acts, asks-moves outcome.acts before after (shown_by outcome.acts) whole.asks)
command_moves command all left before after answer (input, is_input, outcome, gives, inr breaks) =
    (breaks.said, asks-moves outcome.acts before after breaks.said breaks.asks)

-- ---- a command without one

-- a line was shown, or memory was wanting for it
line_answers : (command : CommandValue) (files : Files) (before after : Option Session) (text : List ℕ) (status answer : Status)
    → ((input : List ℕ) → IsResult (Some command) files input (showing status text)) → ShowsOrWants before after text status answer
    → Answers (Some command) files before answer (Some files) after
line_answers command files before after text status answer gives shown =
    let input = input_in before in
    answers_by (Some command) files (Some files) before after answer input.0 (showing status text) input.1 (gives input.0)
    (text_follows (Some files) before after text status answer shown)

shown_answers : (command : CommandValue) (files : Files) (before after : Option Session) (answer : Status) (why : NoImage)
    → HasNoImage (input_of command) why files → ShowsNoImage (file_of (input_of command)) why before after answer
    → Answers (Some command) files before answer (Some files) after
shown_answers command files before after answer none.Absent is tells =
    line_answers command files before after (absent_line (file_of (input_of command))) Absent answer
    (λ input. absent_outcome command (input_of command) files input is) tells
shown_answers command files before after answer (none.Refused place why) is tells =
    line_answers command files before after (refused_line why place) ImageRefused answer
    (λ input. refused_outcome command (input_of command) files input place why is) tells
shown_answers command files before after answer (none.BadLine line why) is tells =
    line_answers command files before after (bad_line line why) SourceRefused answer
    (λ input. bad_outcome command (input_of command) files input line why is) tells
shown_answers command files before after answer (none.Failed refusal) is tells = inr (tells.0, inl (refl, tells.1))

pub no_image_answers : (command : CommandValue) (all left : Option Files) (before mid after : Option Session) (answer : Status)
    (why : NoImage)
    → CarriesOutCommand command all left before mid (Err why) → ShowsNoImage (file_of (input_of command)) why mid after answer
    → IfSome all (λ files. Answers (Some command) files before answer left after)
no_image_answers command None left before mid after answer why carries tells = tt
no_image_answers command (Some files) left before mid after answer why carries tells =
    subst (λ (l : Option Files). Answers (Some command) files before answer l after) (sym carries.1)
    (shown_answers command files before after answer why carries.0
    (subst (λ (s : Option Session). ShowsNoImage (file_of (input_of command)) why s after answer) carries.2 tells))

shown_moves : (before after : Option Session) (text : List ℕ) (status answer : Status) → ShowsOrWants before after text status answer
    → MovesSome before after
shown_moves before after text status answer (inl shown) = shown_some before after text status answer shown
shown_moves before after text status answer (inr wants) =
    subst (λ (s : Option Session). MovesSome before s) (sym wants.1) (some_nothing before)

line_moves : (name : List ℕ) (why : NoImage) (before after : Option Session) (answer : Status) → ShowsNoImage name why before after answer
    → MovesSome before after
line_moves name none.Absent before after answer tells = shown_moves before after _ Absent answer tells
line_moves name (none.Refused place why) before after answer tells = shown_moves before after _ ImageRefused answer tells
line_moves name (none.BadLine line why) before after answer tells = shown_moves before after _ SourceRefused answer tells
line_moves name (none.Failed refusal) before after answer tells =
    subst (λ (s : Option Session). MovesSome before s) (sym tells.1) (some_nothing before)

pub no_image_moves : (command : CommandValue) (all left : Option Files) (before mid after : Option Session) (answer : Status)
    (why : NoImage)
    → CarriesOutCommand command all left before mid (Err why) → ShowsNoImage (file_of (input_of command)) why mid after answer
    → MovesSome before after
no_image_moves command all left before mid after answer why carries tells =
    subst (λ (s : Option Session). MovesSome s after) carries.2 (line_moves (file_of (input_of command)) why mid after answer tells)

-- a fault of the depot was counted where it is answered
pub counts_told : (before after : ℕ) (why : NoImage) (answer : Status) → MovesFaults before after (device_answer why) → FailsBy why answer
    → CountsFaults (answer ≡ DepotFault) before after
counts_told before after none.Absent answer moves fails = (λ is. absurd (fails is), inr moves)
counts_told before after (none.Refused place why) answer moves fails = (λ is. absurd (fails is), inr moves)
counts_told before after (none.BadLine line why) answer moves fails = (λ is. absurd (fails is), inr moves)
counts_told before after (none.Failed device.Fault) answer moves fails = (λ is. moves, inl fails)
counts_told before after (none.Failed device.NoMemory) answer moves fails = (λ is. absurd (fails is), inr moves)

-- ---- only words that are no command end in the usage

cut_not_usage : (answer : Status) → CutsShort answer → answer ≢ Usage
cut_not_usage answer cut is = let P : Status → Type 0 = CutsShort in subst P is cut

stop_not_usage : (stop : Stop) → status_of stop ≢ Usage
stop_not_usage (Ends ends.Returned) = λ e. absurd cc
stop_not_usage stop = λ e. absurd cc

-- an outcome with another status
other_status : (outcome : Outcome) (status : Status) (text : List ℕ) → outcome ≡ showing status text → status ≢ Usage
    → outcome.status ≢ Usage
other_status outcome status text is other same = other (sym (ap (λ (o : Outcome). o.status) is) ∙ same)

plan_not_usage : (plan : Plan) (image : ImageValue) (files : Option Files) (input : List ℕ) (outcome : Outcome)
    → IsPlanOutcome plan image files input outcome → outcome.status ≢ Usage
plan_not_usage (Showing text) image files input outcome is = other_status outcome Done text is (λ e. absurd cc)
plan_not_usage (Putting out bytes) image files input outcome is =
    λ same. let clash : Done ≡ Usage = sym (ap (λ (o : Outcome). o.status) is) ∙ same in absurd cc
plan_not_usage (Running options actions) image files input outcome (inl (why, loaded, is)) =
    other_status outcome LoadRefused _ is (λ e. absurd cc)
plan_not_usage (Running options actions) image files input outcome (inr (ran, runs, is)) =
    λ same. stop_not_usage ran.stop (sym (ap (λ (o : Outcome). o.status) is) ∙ same)

pub command_not_usage : (command : CommandValue) (all left : Option Files) (before after : Option Session) (answer : Status)
    → CarriesOutCommand command all left before after (Ok answer) → answer ≢ Usage
command_not_usage command all left before after answer (input, is_input, outcome, gives, inl whole) =
    λ is. plan_not_usage (plan_of command gives.0) gives.0 all input outcome gives.2 (sym whole.status ∙ is)
command_not_usage command all left before after answer (input, is_input, outcome, gives, inr breaks) = cut_not_usage answer breaks.cut

line_not_usage : (before after : Option Session) (text : List ℕ) (status answer : Status) → status ≢ Usage
    → ShowsOrWants before after text status answer → answer ≢ Usage
line_not_usage before after text status answer other (inl (inl whole)) = λ is. other (sym whole.same ∙ is)
line_not_usage before after text status answer other (inl (inr cut)) = cut_not_usage answer cut.cut
line_not_usage before after text status answer other (inr wants) = cut_not_usage answer (subst CutsShort (sym wants.0) tt)

pub no_image_not_usage : (name : List ℕ) (why : NoImage) (before after : Option Session) (answer : Status)
    → ShowsNoImage name why before after answer
    → answer ≢ Usage
no_image_not_usage name none.Absent before after answer tells = line_not_usage before after _ Absent answer (λ e. absurd cc) tells
no_image_not_usage name (none.Refused place why) before after answer tells =
    line_not_usage before after _ ImageRefused answer (λ e. absurd cc) tells
no_image_not_usage name (none.BadLine line why) before after answer tells =
    line_not_usage before after _ SourceRefused answer (λ e. absurd cc) tells
no_image_not_usage name (none.Failed refusal) before after answer tells = cut_not_usage answer tells.0

-- ---- words that are no command

pub usage_answers : (all : Option Files) (before after : Option Session) (answer : Status) → IsShown before after usage_line Usage answer
    → IfSome all (λ files. Answers None files before answer all after)
usage_answers None before after answer shown = tt
usage_answers (Some files) before after answer shown =
    let input = input_in before in
    answers_by None files (Some files) before after answer input.0 (showing Usage usage_line) input.1 refl
    (text_follows (Some files) before after usage_line Usage answer (inl shown))

-- ---- the clauses

pub whole_of : (command : Option CommandValue) (all left : Option Files) (before after : Option Session) (answer : Status)
    → IfSome all (λ files. Answers command files before answer left after)
    → IfSome all (λ files. ¬ CutsShort answer → IsWhole command files before answer left after)
whole_of command None left before after answer answers = tt
whole_of command (Some files) left before after answer (inl whole) = λ not_cut. whole
whole_of command (Some files) left before after answer (inr (cut, part)) = λ not_cut. absurd (not_cut cut)

pub cut_of : (command : Option CommandValue) (all left : Option Files) (before after : Option Session) (answer : Status)
    → IfSome all (λ files. Answers command files before answer left after)
    → IfSome all (λ files. CutsShort answer → IsCut command files before answer left after)
cut_of command None left before after answer answers = tt
cut_of command (Some files) left before after answer (inl whole) =
    λ cut. absurd (result_not_cut command files whole.input whole.outcome whole.result (let P : Status → Type 0 =
    CutsShort in subst P whole.status cut))
cut_of command (Some files) left before after answer (inr (cut, part)) = λ again. part

pub causes_of : (command : Option CommandValue) (all left : Option Files) (before after : Option Session) (answer : Status)
    → IfSome all (λ files. Answers command files before answer left after)
    → IfSome all (λ files. (status : Status) → ¬ CutsShort status → HasExactCause answer status before (Cause status command files))
causes_of command None left before after answer answers = tt
causes_of command (Some files) left before after answer answers =
    λ status whole. exact_cause status command files before answer left after whole answers
