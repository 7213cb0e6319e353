-- What a console has shown of a text.
use Rattle.std.specs.Prelude.{◌≡◌, ℕ, ◌⊎◌, List, Option, Result, Ok, Err}
use Rattle.t3_io.specs.Session.{Session}
use Rattle.t3_cli.specs.declared.status.Status.{Status}
use Rattle.t3_cli.specs.declared.status.Status.TheVariants.{NoMemory}
use Rattle.t3_cli.specs.Top.{IsShown}

-- a line is shown where there was memory for it
abbrev pub AnswersLine : {Line Error : Type 0} → (Line → List ℕ) → Option Session → Option Session → Result Line Error → Status → Status
    → Type 0
AnswersLine text_of before after (Ok line) status answer = IsShown before after (text_of line) status answer
AnswersLine text_of before after (Err _) status answer = (answer ≡ NoMemory) × (after ≡ before)

-- a line is shown, or there was no memory for it
abbrev pub ShowsOrWants : Option Session → Option Session → List ℕ → Status → Status → Type 0
ShowsOrWants before after text status answer = IsShown before after text status answer ⊎ ((answer ≡ NoMemory) × (after ≡ before))
