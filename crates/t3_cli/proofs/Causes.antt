-- Each status has exactly its cause.
use Rattle.std.proofs.Common.{◌≡◌, ◌≢◌, ℕ, List, Option, Some, None, Result, Ok, Err, refl, sym, ap, subst, ◌∙◌, ◌⊎◌, inl, inr}
use Rattle.std.specs.FinMap.{get}
use Rattle.t3_io.specs.Files.{Files}
use Rattle.t3_io.specs.Session.{Session}
use Rattle.t3_image_read.specs.ImageText.{ImageValue}
use Rattle.t3_asm.specs.declared.refusal.AsmRefusal.{AsmRefusal}
use Rattle.t3_cli.specs.declared.status.Status.{Status}
use Rattle.t3_cli.specs.declared.status.Status.TheVariants.{Done, Usage, Absent, ImageRefused, LoadRefused, SourceRefused, DepotFault, ConsoleFault, NoMemory}
use Rattle.t3_run.specs.declared.stop.Stop.{Stop}
use Rattle.t3_run.specs.declared.stop.Stop.TheVariants.{Ends}
use Rattle.t3_interp.specs.declared.event.End.TheVariants as ends
use Rattle.t3_words.specs.Command.{CommandValue, RunOptions}
use Rattle.t3_cli.specs.Lines.{absent_line, refused_line, bad_line, load_line}
use Rattle.t3_cli.specs.Outcome.{Outcome, showing, IsResult, IsInputOutcome, IsFileOutcome, IsPlanOutcome, IsImageOutcome, IsRunOutcome, IsTextOutcome, IsSourceOutcome, assembled, ran_outcome, status_of}
use Rattle.t3_words.specs.Input.{InputFile, ImageFile, SourceFile, MadeImage, input_of, file_of}
use Rattle.t3_files.specs.Reading.{read_bytes}
use Rattle.t3_drill.specs.Drill.{drill_image}
use Rattle.t3_cli.specs.Plan.{Plan, Showing, Putting, Running, plan_of}
use Rattle.t3_cli.specs.Cause.{Cause, WordsCause, CommandCause, IsAbsent, IsRefusedImage, IsRefusedSource, HasImage, IsUnloadable, EndsBy, RunsInput}
use Rattle.t3_cli.specs.Top.{CutsShort, HasExactCause}
use Rattle.t3_cli.specs.Inner.Following.{Answers}
use Rattle.t3_cli.proofs.Results.{one_outcome}
use Rattle.t3_cli.proofs.InputOutcomes.{absent_outcome, refused_outcome, bad_outcome, image_outcome}

-- ---- an outcome that isn't done has the cause of its status

-- the status of a command is done, or it has its cause
abbrev HasCause : Status → CommandValue → Files → List ℕ → Type 0
HasCause status command files input = (status ≡ Done) ⊎ CommandCause status command files input

-- a run stops by the status of its stop
stop_cause : (stop : Stop) (command : CommandValue) (files : Files) (input : List ℕ) → EndsBy (status_of stop) command files input
    → HasCause (status_of stop) command files input
stop_cause (Ends ends.Returned) command files input by = inl refl
stop_cause stop command files input by = inr by

-- what a plan gives
plan_cause : (command : CommandValue) (image : ImageValue) (files : Files) (input : List ℕ) (outcome : Outcome) (plan : Plan)
    → HasImage (input_of command) files image → plan_of command image ≡ plan → IsPlanOutcome plan image (Some files) input outcome
    → HasCause outcome.status command files input
plan_cause command image files input outcome (Showing text) has planned is = inl (ap (λ (o : Outcome). o.status) is)
plan_cause command image files input outcome (Putting out bytes) has planned is = inl (ap (λ (o : Outcome). o.status) is)
plan_cause command image files input outcome (Running options actions) has planned (inl (why, loaded, is)) =
    let runs : RunsInput command files image options = record { actions = actions; has = has; runs = planned } in
    let P : Status → Type 0 = λ s. HasCause s command files input in
    subst P (sym (ap (λ (o : Outcome). o.status) is)) (inr (image, options, why, runs, loaded))
plan_cause command image files input outcome (Running options actions) has planned (inr (ran, is_run, is)) =
    let runs : RunsInput command files image options = record { actions = actions; has = has; runs = planned } in
    let P : Status → Type 0 = λ s. HasCause s command files input in
    subst P (sym (ap (λ (o : Outcome). o.status) is)) (stop_cause ran.stop command files input (image, options, ran, runs, is_run, refl))

image_cause : (command : CommandValue) (from : InputFile) (image : ImageValue) (files : Files) (input : List ℕ) (outcome : Outcome)
    → input_of command ≡ from → HasImage from files image → IsImageOutcome command image (Some files) input outcome
    → HasCause outcome.status command files input
image_cause command from image files input outcome reads has is =
    plan_cause command image files input outcome (plan_of command image)
    (subst (λ (i : InputFile). HasImage i files image) (sym reads) has) refl is

file_cause : (command : CommandValue) (name : List ℕ) (file : Option (List ℕ)) (files : Files) (input : List ℕ) (outcome : Outcome)
    → input_of command ≡ ImageFile name
    → get files name ≡ file → IsFileOutcome command name file (Some files) input outcome → HasCause outcome.status command files input
file_cause command name None files input outcome reads there is =
    let P : InputFile → Type 0 = λ i. IsAbsent i files in
    let Q : Status → Type 0 = λ s. HasCause s command files input in
    subst Q (sym (ap (λ (o : Outcome). o.status) is)) (inr (subst P (sym reads) there))
file_cause command name (Some file) files input outcome reads there (inl refusal) =
    let P : InputFile → Type 0 = λ i. IsRefusedImage i files in
    let Q : Status → Type 0 = λ s. HasCause s command files input in
    subst Q (sym (ap (λ (o : Outcome). o.status) refusal.is)) (inr (subst P (sym reads) (file, there, (refusal.place, refusal.why, refusal.refused))))
file_cause command name (Some file) files input outcome reads there (inr (image, begins, is)) =
    image_cause command (ImageFile name) image files input outcome reads (file, there, begins) is

source_cause : (command : CommandValue) (name file : List ℕ) (found : Result ImageValue AsmRefusal) (files : Files) (input : List ℕ) (outcome : Outcome)
    → input_of command ≡ SourceFile name → get files name ≡ Some file → assembled (read_bytes file) ≡ found
    → IsSourceOutcome command found (Some files) input outcome → HasCause outcome.status command files input
source_cause command name file (Ok image) files input outcome reads there says is =
    image_cause command (SourceFile name) image files input outcome reads (file, there, says) is
source_cause command name file (Err refused) files input outcome reads there says is =
    let P : InputFile → Type 0 = λ i. IsRefusedSource i files in
    let Q : Status → Type 0 = λ s. HasCause s command files input in
    subst Q (sym (ap (λ (o : Outcome). o.status) is)) (inr (subst P (sym reads) (file, refused, there, says)))

text_cause : (command : CommandValue) (name : List ℕ) (file : Option (List ℕ)) (files : Files) (input : List ℕ) (outcome : Outcome)
    → input_of command ≡ SourceFile name
    → get files name ≡ file → IsTextOutcome command name file (Some files) input outcome → HasCause outcome.status command files input
text_cause command name None files input outcome reads there is =
    let P : InputFile → Type 0 = λ i. IsAbsent i files in
    let Q : Status → Type 0 = λ s. HasCause s command files input in
    subst Q (sym (ap (λ (o : Outcome). o.status) is)) (inr (subst P (sym reads) there))
text_cause command name (Some file) files input outcome reads there is =
    source_cause command name file (assembled (read_bytes file)) files input outcome reads there refl is

input_cause : (command : CommandValue) (from : InputFile) (files : Files) (input : List ℕ) (outcome : Outcome) → input_of command ≡ from
    → IsInputOutcome command from files input outcome
    → HasCause outcome.status command files input
input_cause command (ImageFile name) files input outcome reads is =
    file_cause command name (get files name) files input outcome reads refl is
input_cause command (SourceFile name) files input outcome reads is =
    text_cause command name (get files name) files input outcome reads refl is
input_cause command (MadeImage number) files input outcome reads is =
    image_cause command (MadeImage number) (drill_image number) files input outcome reads refl is

result_cause : (command : Option CommandValue) (files : Files) (input : List ℕ) (outcome : Outcome) → IsResult command files input outcome
    → (outcome.status ≡ Done) ⊎ WordsCause outcome.status command files input
result_cause None files input outcome is = inr (ap (λ (o : Outcome). o.status) is)
result_cause (Some command) files input outcome is = input_cause command (input_of command) files input outcome refl is

-- no outcome is cut short
cause_not_cut : (status : Status) (command : CommandValue) (files : Files) (input : List ℕ) → CommandCause status command files input
    → ¬ CutsShort status
cause_not_cut DepotFault command files input cause = absurd cause
cause_not_cut ConsoleFault command files input cause = absurd cause
cause_not_cut NoMemory command files input cause = absurd cause
cause_not_cut status command files input cause = λ cut. cut

words_not_cut : (status : Status) (command : Option CommandValue) (files : Files) (input : List ℕ) → WordsCause status command files input
    → ¬ CutsShort status
words_not_cut status None files input cause = λ cut. subst CutsShort cause cut
words_not_cut status (Some command) files input cause = cause_not_cut status command files input cause

pub result_not_cut : (command : Option CommandValue) (files : Files) (input : List ℕ) (outcome : Outcome)
    → IsResult command files input outcome → ¬ CutsShort outcome.status
result_not_cut command files input outcome result =
    elim (result_cause command files input outcome result) [
      | inl done ↦ λ cut. subst CutsShort done cut
      | inr cause ↦ words_not_cut outcome.status command files input cause
    ]

-- ---- where a cause holds, there is an outcome with its status

pub record HasStatus (status : Status) (command : Option CommandValue) (files : Files) (input : List ℕ) : Type 0 where
  pub outcome : Outcome
  pub result : IsResult command files input outcome
  pub is : outcome.status ≡ status

abbrev ReadsOutcome : CommandValue → InputFile → Files → List ℕ → Status → Type 0
ReadsOutcome command from files input status = (outcome : Outcome) × IsInputOutcome command from files input outcome × (outcome.status ≡ status)

of_input : (status : Status) (command : CommandValue) (files : Files) (input : List ℕ)
    → ReadsOutcome command (input_of command) files input status → HasStatus status (Some command) files input
of_input status command files input (outcome, result, is) = record { outcome = outcome; result = result; is = is }

absent_status : (command : CommandValue) (from : InputFile) (files : Files) (input : List ℕ) → IsAbsent from files
    → ReadsOutcome command from files input Absent
absent_status command from files input absent =
    (showing Absent (absent_line (file_of from)), absent_outcome command from files input absent, refl)

refused_status : (command : CommandValue) (from : InputFile) (files : Files) (input : List ℕ) → IsRefusedImage from files
    → ReadsOutcome command from files input ImageRefused
refused_status command (SourceFile name) files input refused = absurd refused
refused_status command (MadeImage number) files input refused = absurd refused
refused_status command (ImageFile name) files input (file, there, (place, why, refused)) = (
  showing ImageRefused (refused_line why place),
  refused_outcome command (ImageFile name) files input place why (file, there, refused),
  refl,
)

bad_status : (command : CommandValue) (from : InputFile) (files : Files) (input : List ℕ) → IsRefusedSource from files
    → ReadsOutcome command from files input SourceRefused
bad_status command (ImageFile name) files input refused = absurd refused
bad_status command (MadeImage number) files input refused = absurd refused
bad_status command (SourceFile name) files input (file, refused, there, says) = (
  showing SourceRefused (bad_line refused.line refused.why),
  bad_outcome command (SourceFile name) files input refused.line refused.why (file, there, says),
  refl,
)

runs_status : (command : CommandValue) (files : Files) (input : List ℕ) (image : ImageValue) (options : RunOptions) (outcome : Outcome)
    → (runs : RunsInput command files image options)
    → IsRunOutcome options runs.actions image (Some files) input outcome → HasStatus outcome.status (Some command) files input
runs_status command files input image options outcome runs is =
    let planned : IsImageOutcome command image (Some files) input outcome =
    subst (λ (plan : Plan). IsPlanOutcome plan image (Some files) input outcome) (sym runs.runs) is in
    record {
      outcome = outcome;
      result = image_outcome command (input_of command) files input image outcome runs.has planned;
      is = refl;
    }

as_status : (a b : Status) (command : Option CommandValue) (files : Files) (input : List ℕ) → a ≡ b → HasStatus a command files input
    → HasStatus b command files input
as_status a b command files input same has = record { outcome = has.outcome; result = has.result; is = has.is ∙ same }

unloaded_status : (command : CommandValue) (files : Files) (input : List ℕ) → IsUnloadable command files
    → HasStatus LoadRefused (Some command) files input
unloaded_status command files input (image, options, why, runs, loaded) =
    runs_status command files input image options (showing LoadRefused (load_line why)) runs (inl (why, loaded, refl))

ends_status : (status : Status) (command : CommandValue) (files : Files) (input : List ℕ) → EndsBy status command files input
    → HasStatus status (Some command) files input
ends_status status command files input (image, options, ran, runs, is_run, is) =
    as_status (status_of ran.stop) status (Some command) files input is
    (runs_status command files input image options (ran_outcome runs.actions ran) runs (inr (ran, is_run, refl)))

command_status : (status : Status) (command : CommandValue) (files : Files) (input : List ℕ) → CommandCause status command files input
    → HasStatus status (Some command) files input
command_status Done command files input cause = absurd cause
command_status Usage command files input cause = absurd cause
command_status Absent command files input cause = of_input Absent command files input (absent_status command (input_of command) files input cause)
command_status ImageRefused command files input cause =
    of_input ImageRefused command files input (refused_status command (input_of command) files input cause)
command_status SourceRefused command files input cause =
    of_input SourceRefused command files input (bad_status command (input_of command) files input cause)
command_status LoadRefused command files input cause = unloaded_status command files input cause
command_status DepotFault command files input cause = absurd cause
command_status ConsoleFault command files input cause = absurd cause
command_status NoMemory command files input cause = absurd cause
command_status status command files input cause = ends_status status command files input cause

words_status : (status : Status) (command : Option CommandValue) (files : Files) (input : List ℕ) → WordsCause status command files input
    → HasStatus status command files input
words_status status None files input cause = record { outcome = _; result = refl; is = sym cause }
words_status status (Some command) files input cause = command_status status command files input cause

-- so the outcome that there is has the status
by_cause : (status : Status) (command : Option CommandValue) (files : Files) (input : List ℕ) (outcome : Outcome)
    → IsResult command files input outcome
    → WordsCause status command files input → outcome.status ≡ status
by_cause status command files input outcome result cause =
    let has = words_status status command files input cause in
    ap (λ (o : Outcome). o.status) (one_outcome command files input outcome has.outcome result has.result) ∙ has.is

-- no cause has the status of what is done
not_done : (command : Option CommandValue) (files : Files) (input : List ℕ) → ¬ WordsCause Done command files input
not_done None files input cause = absurd cc
not_done (Some command) files input cause = cause

-- ---- both ways, status by status

abbrev IsCauseOf : Status → Type 0
IsCauseOf status =
    (command : Option CommandValue) (files : Files) (input : List ℕ) (outcome : Outcome) → IsResult command files input outcome
    → (outcome.status ≡ status → Cause status command files input) × (Cause status command files input → outcome.status ≡ status)

done_cause : IsCauseOf Done
done_cause command files input outcome result = (only, always)
  where
    only : outcome.status ≡ Done → (status : Status) → ¬ WordsCause status command files input
    only is status cause =
        let same : status ≡ Done = sym (by_cause status command files input outcome result cause) ∙ is in
        not_done command files input (subst (λ s. WordsCause s command files input) same cause)

    always : ((status : Status) → ¬ WordsCause status command files input) → outcome.status ≡ Done
    always none =
        elim (result_cause command files input outcome result) [ inl done ↦ done | inr cause ↦ absurd (none outcome.status cause) ]

other_cause : (status : Status) → status ≢ Done → (command : Option CommandValue) (files : Files) (input : List ℕ) (outcome : Outcome)
    → IsResult command files input outcome
    → (outcome.status ≡ status → WordsCause status command files input) × (WordsCause status command files input → outcome.status ≡ status)
other_cause status other command files input outcome result = (only, by_cause status command files input outcome result)
  where
    only : outcome.status ≡ status → WordsCause status command files input
    only is =
        elim (result_cause command files input outcome result) [
          | inl done ↦ absurd (other (sym is ∙ done))
          | inr cause ↦ subst (λ s. WordsCause s command files input) is cause
        ]

cause_of : (status : Status) → IsCauseOf status
cause_of Done = done_cause
cause_of status = other_cause status (λ e. absurd cc)

-- what was answered has its cause
pub exact_cause : (status : Status) (command : Option CommandValue) (files : Files) (before : Option Session) (answer : Status) (left : Option Files) (after : Option Session)
    → ¬ CutsShort status → Answers command files before answer left after → HasExactCause answer status before (Cause status command files)
exact_cause status command files before answer left after whole (inl stands) =
    let cause = cause_of status command files stands.input stands.outcome stands.result in
    record {
      only = λ is. (stands.input, stands.is_input, cause.0 (sym stands.status ∙ is));
      always = λ holds. inl (stands.status ∙ cause.1 (holds stands.input stands.is_input));
    }
exact_cause status command files before answer left after whole (inr (cut, stands)) =
    record { only = λ is. absurd (whole (subst CutsShort is cut)); always = λ holds. inr cut }
