-- What is read of a file for a command, and how an image's is read piece by piece.
use Rattle.std.specs.Prelude.{◌≡◌, ℕ, List, [], length, take, Option, IfSome, Result, Ok, Err}
use Rattle.std.specs.Global.{Vec}
use Rattle.t3_io.specs.Files.{Files}
use Rattle.t3_io.specs.declared.refusal.DeviceRefusal.TheVariants as device
use Rattle.t3_asm.specs.Refusals.{refusal}
use Rattle.t3_image_read.specs.declared.reader.Fed.{Fed}
use Rattle.t3_image_read.specs.declared.reader.Fed.TheVariants as fed
use Rattle.t3_image_read.specs.declared.reader.Totals.{Totals}
use Rattle.t3_image_read.specs.declared.refusal.ReadRefusal.{ReadRefusal}
use Rattle.t3_image_read.specs.ImageText.{ImageValue, text}
use Rattle.t3_image_read.specs.Reader.{Reading, Taking, Ended, Failed, Feeds, totals_of}
use Rattle.t3_files.specs.Reading.{TakesSoFar, IsEnd}
use Rattle.t3_drill.specs.Drill.{drill_image}
use Rattle.t3_words.specs.Input.{InputFile, ImageFile, SourceFile, MadeImage}
use Rattle.t3_cli.specs.Plan.{written_text}
use Rattle.t3_cli.specs.Outcome.{assembled, fingerprint_of}
use Rattle.t3_cli.specs.Cause.{HasImage}
use Rattle.t3_cli.specs.declared.images.read.DigestedImage.{DigestedImage}
use Rattle.t3_cli.specs.declared.images.no_image.NoImage.{NoImage}
use Rattle.t3_cli.specs.declared.images.no_image.NoImage.TheVariants as none
use Rattle.t3_cli.specs.Inner.NoImage.{HasNoImage, no_image_of}

-- ---- what is made of the image that a command begins with

-- the command begins with this image; of a file it is known where the device tells its files
abbrev pub BeginsBy : InputFile → Option Files → ImageValue → Type 0
BeginsBy (MadeImage number) files image = image ≡ drill_image number
BeginsBy (ImageFile name) files image = IfSome files (λ all. HasImage (ImageFile name) all image)
BeginsBy (SourceFile name) files image = IfSome files (λ all. HasImage (SourceFile name) all image)

-- this was made of the image that a command begins with, or there is none
abbrev pub ReadsImage : {T : Type 0} → (ImageValue → T → Type 0) → InputFile → Option Files → Result T NoImage → Type 0
ReadsImage IsMade from files (Ok made) = (image : ImageValue) × BeginsBy from files image × IsMade image made
ReadsImage IsMade from files (Err why) = IfSome files (HasNoImage from why)

-- the image itself
abbrev pub IsImage : ImageValue → ImageValue → Type 0
IsImage image read = read ≡ image

-- the image with its fingerprint
pub record IsDigested (image : ImageValue) (digested : DigestedImage) : Type 0 where
  pub is : digested.image ≡ image
  pub digest : digested.digest ≡ fingerprint_of digested.image

-- its totals
abbrev pub HasTotals : ImageValue → Totals → Type 0
HasTotals image totals = totals ≡ totals_of image

-- what is written of it under the mask, where one is given
abbrev pub IsRewritten : Option ℕ → ImageValue → Vec ℕ → Type 0
IsRewritten mask image written = written.items ≡ written_text mask image

-- the image that bytes say as a source, or their bad line, unless memory was wanting
abbrev pub IsAssembled : List ℕ → Result ImageValue NoImage → Type 0
IsAssembled bytes (Ok image) = assembled bytes ≡ Ok image
IsAssembled bytes (Err (none.BadLine line why)) = assembled bytes ≡ Err (refusal line why)
IsAssembled bytes (Err (none.Failed device.NoMemory)) = Unit {0}
IsAssembled bytes (Err _) = ⊥

-- ---- an image's file, piece by piece

-- what is known of the file when it was read up to the place
abbrev pub HasRead : Option Files → List ℕ → Reading → ℕ → Type 0
HasRead files name (Taking taken) at = (length taken ≡ at) × TakesSoFar files name taken at
HasRead files name (Ended image) at = BeginsBy (ImageFile name) files image
HasRead files name (Failed refusal) at = IfSome files (HasNoImage (ImageFile name) (no_image_of refusal))

-- the file was read up to where it ends, or not at all
abbrev pub ReadsPieces : Option Files → List ℕ → Reading → Result (Unit {0}) NoImage → Type 0
ReadsPieces files name reading (Ok _) = (at : ℕ) × HasRead files name reading at × IsEnd files name at
ReadsPieces files name reading (Err why) = IfSome files (HasNoImage (ImageFile name) why)

-- a piece was fed
abbrev pub IsFed : Reading → List ℕ → Reading → Type 0
IsFed before piece after = (answer : Result Fed ReadRefusal) × Feeds before piece answer after

-- the bytes of a piece that a reader took
abbrev pub taken_of : List ℕ → Result Fed ReadRefusal → List ℕ
taken_of piece (Ok fed.More) = piece
taken_of piece (Ok (fed.Done used)) = take used piece
taken_of piece (Err refusal) = []

-- a sink has what the reader took
abbrev pub HoldsRead : {P : Type 0} → (P → List ℕ → Type 0) → Reading → P → Type 0
HoldsRead HasTaken (Taking taken) sink = HasTaken sink taken
HoldsRead HasTaken (Ended image) sink = HasTaken sink (text image)
HoldsRead HasTaken (Failed refusal) sink = Unit {0}
