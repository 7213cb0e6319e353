-- What a command gives that has no image, and what one gives that has one.
use Rattle.std.proofs.Common.{ℕ, List, Option, Some, Result, inl, inr, refl, sym, subst}
use Rattle.t3_io.specs.Files.{Files}
use Rattle.t3_image_read.specs.ImageText.{ImageValue}
use Rattle.t3_image_read.specs.declared.refusal.ReadWhy.{ReadWhy}
use Rattle.t3_asm.specs.declared.refusal.AsmRefusal.{AsmRefusal}
use Rattle.t3_asm.specs.declared.refusal.AsmWhy.{AsmWhy}
use Rattle.t3_words.specs.Command.{CommandValue}
use Rattle.t3_words.specs.Input.{InputFile, ImageFile, SourceFile, MadeImage, file_of}
use Rattle.t3_cli.specs.declared.status.Status.TheVariants.{Absent, ImageRefused, SourceRefused}
use Rattle.t3_cli.specs.Lines.{absent_line, refused_line, bad_line}
use Rattle.t3_cli.specs.Outcome.{Outcome, showing, IsInputOutcome, IsFileOutcome, IsTextOutcome, IsSourceOutcome, IsImageOutcome}
use Rattle.t3_cli.specs.Cause.{IsAbsent, HasImage}
use Rattle.t3_cli.specs.Inner.NoImage.{IsRefusedAt, IsBadAt}

pub absent_outcome : (command : CommandValue) (from : InputFile) (files : Files) (input : List ℕ) → IsAbsent from files
    → IsInputOutcome command from files input (showing Absent (absent_line (file_of from)))
absent_outcome command (ImageFile name) files input absent =
    let P : Option (List ℕ) → Type 0 = λ o. IsFileOutcome command name o (Some files) input (showing Absent (absent_line name)) in
    subst P (sym absent) refl
absent_outcome command (SourceFile name) files input absent =
    let P : Option (List ℕ) → Type 0 = λ o. IsTextOutcome command name o (Some files) input (showing Absent (absent_line name)) in
    subst P (sym absent) refl
absent_outcome command (MadeImage number) files input absent = absurd absent

pub refused_outcome : (command : CommandValue) (from : InputFile) (files : Files) (input : List ℕ) (place : ℕ) (why : ReadWhy)
    → IsRefusedAt from files place why → IsInputOutcome command from files input (showing ImageRefused (refused_line why place))
refused_outcome command (SourceFile name) files input place why refused = absurd refused
refused_outcome command (MadeImage number) files input place why refused = absurd refused
refused_outcome command (ImageFile name) files input place why (file, there, refused) =
    let P : Option (List ℕ) → Type 0 = λ o. IsFileOutcome command name o (Some files) input
    (showing ImageRefused (refused_line why place)) in
    subst P (sym there) (inl (record { place = place; why = why; refused = refused; is = refl }))

pub bad_outcome : (command : CommandValue) (from : InputFile) (files : Files) (input : List ℕ) (line : ℕ) (why : AsmWhy)
    → IsBadAt from files line why → IsInputOutcome command from files input (showing SourceRefused (bad_line line why))
bad_outcome command (ImageFile name) files input line why bad = absurd bad
bad_outcome command (MadeImage number) files input line why bad = absurd bad
bad_outcome command (SourceFile name) files input line why (file, there, says) =
    let outcome = showing SourceRefused (bad_line line why) in
    let P : Option (List ℕ) → Type 0 = λ o. IsTextOutcome command name o (Some files) input outcome in
    let Q : Result ImageValue AsmRefusal → Type 0 = λ r. IsSourceOutcome command r (Some files) input outcome in
    subst P (sym there) (subst Q (sym says) refl)

pub image_outcome : (command : CommandValue) (from : InputFile) (files : Files) (input : List ℕ) (image : ImageValue) (outcome : Outcome)
    → HasImage from files image → IsImageOutcome command image (Some files) input outcome → IsInputOutcome command from files input outcome
image_outcome command (ImageFile name) files input image outcome (file, there, begins) is =
    let P : Option (List ℕ) → Type 0 = λ o. IsFileOutcome command name o (Some files) input outcome in
    subst P (sym there) (inr (image, begins, is))
image_outcome command (SourceFile name) files input image outcome (file, there, says) is =
    let P : Option (List ℕ) → Type 0 = λ o. IsTextOutcome command name o (Some files) input outcome in
    let Q : Result ImageValue AsmRefusal → Type 0 = λ r. IsSourceOutcome command r (Some files) input outcome in
    subst P (sym there) (subst Q (sym says) is)
image_outcome command (MadeImage number) files input image outcome same is =
    subst (λ (i : ImageValue). IsImageOutcome command i (Some files) input outcome) same is
