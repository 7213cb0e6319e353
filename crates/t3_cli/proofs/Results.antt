-- The words give exactly one outcome.
use Rattle.std.proofs.Common.{◌≡◌, ◌≢◌, ℕ, List, Option, Some, None, Result, Ok, Err, refl, sym, ap, subst, ◌∙◌, inl, inr}
use Rattle.std.specs.FinMap.{get}
use Rattle.t3_io.specs.Files.{Files}
use Rattle.t3_holder.specs.NumberText.{AreBytes}
use Rattle.t3_blocks.proofs.Lists.{AreBytes-take}
use Rattle.t3_image_read.specs.ImageText.{ImageValue}
use Rattle.t3_image_read.specs.Refusal.{Refused}
use Rattle.t3_image_read.specs.declared.refusal.ReadWhy.{ReadWhy}
use Rattle.t3_image_read.proofs.Existence.{image_or_refused}
use Rattle.t3_image_read.proofs.Uniqueness.{one_image, one_refusal, not_both}
use Rattle.t3_asm.specs.declared.refusal.AsmRefusal.{AsmRefusal}
use Rattle.t3_files.specs.Reading.{read_bytes, read_limit}
use Rattle.t3_drill.specs.Drill.{drill_image}
use Rattle.t3_cli.specs.Plan.{Plan, Showing, Putting, Running, plan_of}
use Rattle.t3_cli.specs.declared.status.Status.TheVariants.{Done, Usage, Absent, ImageRefused, LoadRefused, SourceRefused}
use Rattle.t3_words.specs.Command.{CommandValue, RunOptions}
use Rattle.t3_cli.specs.Lines.{usage_line, absent_line, refused_line, bad_line, load_line}
use Rattle.t3_load.specs.declared.refusal.LoadRefusal.{LoadRefusal}
use Rattle.t3_load.specs.declared.refusal.LoadRefusal.TheVariants.{NoMemory as NoRoom}
use Rattle.t3_load.specs.Loading.{ProgramValue, Loads}
use Rattle.t3_load.proofs.OneAnswer.{one_answer}
use Rattle.t3_load.proofs.SomeAnswer.{some_answer}
use Rattle.t3_run.specs.Run.{Terms, begun}
use Rattle.t3_cli.specs.Outcome.{Outcome, showing, putting, IsResult, IsInputOutcome, IsFileOutcome, IsPlanOutcome, IsImageOutcome, IsRunOutcome, IsLoaded, fingerprint_of, run_limits, IsSourceOutcome, IsTextOutcome, assembled, BeginsWith, HoldBytes, RunsProgram, ran_outcome}
use Rattle.t3_words.specs.Input.{InputFile, ImageFile, SourceFile, MadeImage, input_of}
use Rattle.t3_run.proofs.Runs.{one_run, some_run}

-- ---- one outcome

-- loading gives one answer
one_loaded : (options : RunOptions) (image : ImageValue) (a b : Result ProgramValue LoadRefusal) → IsLoaded options image a
    → IsLoaded options image b → a ≡ b
one_loaded options image a b is_a is_b =
    one_answer image.blocks (fingerprint_of image) (run_limits options) a b is_a.0 is_b.0 is_a.1 is_b.1

one_run_outcome : (options : RunOptions) (actions : Option ℕ) (image : ImageValue) (files : Files) (input : List ℕ) (a b : Outcome)
    → IsRunOutcome options actions image (Some files) input a → IsRunOutcome options actions image (Some files) input b → a ≡ b
one_run_outcome options actions image files input a b (inl x) (inl y) =
    let both : ◌≡◌ {A = Result ProgramValue LoadRefusal} (Err x.0) (Err y.0) = one_loaded options image (Err x.0) (Err y.0) x.1 y.1 in
    let same : x.0 ≡ y.0 = cc in
    x.2 ∙ ap (λ why. showing LoadRefused (load_line why)) same ∙ sym y.2
one_run_outcome options actions image files input a b (inl x) (inr y) =
    let clash : ◌≡◌ {A = Result ProgramValue LoadRefusal} (Err x.0) (Ok y.1.program) =
    one_loaded options image (Err x.0) (Ok y.1.program) x.1 y.1.loaded in absurd cc
one_run_outcome options actions image files input a b (inr x) (inl y) =
    let clash : ◌≡◌ {A = Result ProgramValue LoadRefusal} (Ok x.1.program) (Err y.0) =
    one_loaded options image (Ok x.1.program) (Err y.0) x.1.loaded y.1 in absurd cc
one_run_outcome options actions image files input a b (inr x) (inr y) =
    let both : ◌≡◌ {A = Result ProgramValue LoadRefusal} (Ok y.1.program) (Ok x.1.program) =
    one_loaded options image (Ok y.1.program) (Ok x.1.program) y.1.loaded x.1.loaded in
    let program : y.1.program ≡ x.1.program = cc in
    let P : ProgramValue → Type 0 = λ p. RunsProgram p options (Some files) input y.0 in
    let terms : Terms = record { width = options.width; input = input } in
    let same =
    one_run terms x.1.program options.steps (begun x.1.program (Some files)) x.0 y.0 (files, refl) x.1.runs (subst P program y.1.runs) in
    x.2 ∙ ap (ran_outcome actions) same ∙ sym y.2

one_plan_outcome : (plan : Plan) (image : ImageValue) (files : Files) (input : List ℕ) (a b : Outcome)
    → IsPlanOutcome plan image (Some files) input a → IsPlanOutcome plan image (Some files) input b → a ≡ b
one_plan_outcome (Running options actions) image files input a b x y = one_run_outcome options actions image files input a b x y
one_plan_outcome (Showing text) image files input a b x y = x ∙ sym y
one_plan_outcome (Putting out bytes) image files input a b x y = x ∙ sym y

one_image_outcome : (command : CommandValue) (image : ImageValue) (files : Files) (input : List ℕ) (a b : Outcome)
    → IsImageOutcome command image (Some files) input a → IsImageOutcome command image (Some files) input b → a ≡ b
one_image_outcome command image files input a b x y = one_plan_outcome (plan_of command image) image files input a b x y

-- bytes that begin with an image aren't refused
begins_or_refused : (bytes : List ℕ) (place : ℕ) (why : ReadWhy) (image : ImageValue) → Refused bytes place why → BeginsWith bytes image → ⊥
begins_or_refused bytes place why image refused begins =
    not_both image begins.trailing place why begins.valid (subst (λ s. Refused s place why) begins.begins refused)

-- and with one image
begins_with_one : (bytes : List ℕ) (a b : ImageValue) → BeginsWith bytes a → BeginsWith bytes b → a ≡ b
begins_with_one bytes a b x y = (one_image a b x.trailing y.trailing x.valid y.valid (sym x.begins ∙ y.begins)).0

one_file_outcome : (command : CommandValue) (name : List ℕ) (file : Option (List ℕ)) (files : Files) (input : List ℕ) (a b : Outcome)
    → IsFileOutcome command name file (Some files) input a → IsFileOutcome command name file (Some files) input b → a ≡ b
one_file_outcome command name None files input a b x y = x ∙ sym y
one_file_outcome command name (Some file) files input a b (inl x) (inl y) =
    let same = one_refusal (read_bytes file) x.place y.place x.why y.why x.refused y.refused in
    x.is ∙ (λ i. showing ImageRefused (refused_line (same.1 i) (same.0 i))) ∙ sym y.is
one_file_outcome command name (Some file) files input a b (inl x) (inr (image, begins, y)) =
    absurd (begins_or_refused (read_bytes file) x.place x.why image x.refused begins)
one_file_outcome command name (Some file) files input a b (inr (image, begins, x)) (inl y) =
    absurd (begins_or_refused (read_bytes file) y.place y.why image y.refused begins)
one_file_outcome command name (Some file) files input a b (inr (image, begins, x)) (inr (other, also, y)) =
    let P : ImageValue → Type 0 = λ i. IsImageOutcome command i (Some files) input b in
    one_image_outcome command image files input a b x (subst P (begins_with_one (read_bytes file) other image also begins) y)

one_source_outcome : (command : CommandValue) (found : Result ImageValue AsmRefusal) (files : Files) (input : List ℕ) (a b : Outcome)
    → IsSourceOutcome command found (Some files) input a → IsSourceOutcome command found (Some files) input b → a ≡ b
one_source_outcome command (Ok image) files input a b x y = one_image_outcome command image files input a b x y
one_source_outcome command (Err refused) files input a b x y = x ∙ sym y

one_text_outcome : (command : CommandValue) (name : List ℕ) (file : Option (List ℕ)) (files : Files) (input : List ℕ) (a b : Outcome)
    → IsTextOutcome command name file (Some files) input a → IsTextOutcome command name file (Some files) input b → a ≡ b
one_text_outcome command name None files input a b x y = x ∙ sym y
one_text_outcome command name (Some file) files input a b x y = one_source_outcome command (assembled (read_bytes file)) files input a b x y

one_input_outcome : (command : CommandValue) (from : InputFile) (files : Files) (input : List ℕ) (a b : Outcome)
    → IsInputOutcome command from files input a → IsInputOutcome command from files input b → a ≡ b
one_input_outcome command (ImageFile name) files input a b x y = one_file_outcome command name (get files name) files input a b x y
one_input_outcome command (SourceFile name) files input a b x y = one_text_outcome command name (get files name) files input a b x y
one_input_outcome command (MadeImage number) files input a b x y = one_image_outcome command (drill_image number) files input a b x y

pub one_outcome : (command : Option CommandValue) (files : Files) (input : List ℕ) (a b : Outcome) → IsResult command files input a
    → IsResult command files input b → a ≡ b
one_outcome None files input a b x y = x ∙ sym y
one_outcome (Some command) files input a b x y = one_input_outcome command (input_of command) files input a b x y

-- ---- some outcome

pub some_run_outcome : (options : RunOptions) (actions : Option ℕ) (image : ImageValue) (files : Option Files) (input : List ℕ)
    → (outcome : Outcome) × IsRunOutcome options actions image files input outcome
some_run_outcome options actions image files input = by_answer (some_answer image.blocks (fingerprint_of image) (run_limits options))
  where
    by_answer : ((answer : Result ProgramValue LoadRefusal) × (answer ≢ Err NoRoom)
        × Loads image.blocks (fingerprint_of image) (run_limits options) answer)
        → (outcome : Outcome) × IsRunOutcome options actions image files input outcome
    by_answer (Ok program, known, loads) =
        let run = some_run (record { width = options.width; input = input }) program options.steps (begun program files) in
        (ran_outcome actions run.0, inr (run.0, record { program = program; loaded = (known, loads); runs = run.1 }, refl))
    by_answer (Err why, known, loads) = (showing LoadRefused (load_line why), inl (why, (known, loads), refl))

some_plan_outcome : (plan : Plan) (image : ImageValue) (files : Option Files) (input : List ℕ)
    → (outcome : Outcome) × IsPlanOutcome plan image files input outcome
some_plan_outcome (Showing text) image files input = (showing Done text, refl)
some_plan_outcome (Putting out bytes) image files input = (putting out bytes, refl)
some_plan_outcome (Running options actions) image files input = some_run_outcome options actions image files input

some_image_outcome : (command : CommandValue) (image : ImageValue) (files : Option Files) (input : List ℕ)
    → (outcome : Outcome) × IsImageOutcome command image files input outcome
some_image_outcome command image files input = some_plan_outcome (plan_of command image) image files input

some_file_outcome : (command : CommandValue) (name : List ℕ) (file : Option (List ℕ)) (files : Option Files) (input : List ℕ)
    → ((bytes : List ℕ) → file ≡ Some bytes → AreBytes bytes) → (outcome : Outcome) × IsFileOutcome command name file files input outcome
some_file_outcome command name None files input bytes = (showing Absent (absent_line name), refl)
some_file_outcome command name (Some file) files input bytes =
    elim (image_or_refused (read_bytes file) (AreBytes-take read_limit file (bytes file refl))) [
      | inl (image, trailing, valid, begins) ↦
          let some = some_image_outcome command image files input in
          (some.0, inr (image, record { trailing = trailing; valid = valid; begins = begins }, some.1))
      | inr (place, why, refused) ↦ (showing ImageRefused (refused_line why place), inl (record { place = place; why = why; refused = refused; is = refl }))
    ]

some_source_outcome : (command : CommandValue) (found : Result ImageValue AsmRefusal) (files : Option Files) (input : List ℕ)
    → (outcome : Outcome) × IsSourceOutcome command found files input outcome
some_source_outcome command (Ok image) files input = some_image_outcome command image files input
some_source_outcome command (Err refused) files input = (showing SourceRefused (bad_line refused.line refused.why), refl)

some_text_outcome : (command : CommandValue) (name : List ℕ) (file : Option (List ℕ)) (files : Option Files) (input : List ℕ)
    → (outcome : Outcome) × IsTextOutcome command name file files input outcome
some_text_outcome command name None files input = (showing Absent (absent_line name), refl)
some_text_outcome command name (Some file) files input = some_source_outcome command (assembled (read_bytes file)) files input

some_input_outcome : (command : CommandValue) (from : InputFile) (files : Files) (input : List ℕ) → HoldBytes files
    → (outcome : Outcome) × IsInputOutcome command from files input outcome
some_input_outcome command (ImageFile name) files input bytes = some_file_outcome command name (get files name) (Some files) input (bytes name)
some_input_outcome command (SourceFile name) files input bytes = some_text_outcome command name (get files name) (Some files) input
some_input_outcome command (MadeImage number) files input bytes = some_image_outcome command (drill_image number) (Some files) input

pub some_outcome : (command : Option CommandValue) (files : Files) (input : List ℕ) → HoldBytes files
    → (outcome : Outcome) × IsResult command files input outcome
some_outcome None files input bytes = (showing Usage usage_line, refl)
some_outcome (Some command) files input bytes = some_input_outcome command (input_of command) files input bytes
