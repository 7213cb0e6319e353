-- Why a command has no image.
use Rattle.std.specs.Prelude.{◌≡◌, ℕ, List, Some, Result, Ok, Err}
use Rattle.std.specs.FinMap.{get}
use Rattle.t3_io.specs.Files.{Files}
use Rattle.t3_io.specs.Cause.{MovesFaults}
use Rattle.t3_io.specs.declared.refusal.DeviceRefusal.{DeviceRefusal}
use Rattle.t3_io.specs.declared.refusal.DeviceRefusal.TheVariants as device
use Rattle.t3_image_read.specs.declared.refusal.ReadWhy.{ReadWhy}
use Rattle.t3_image_read.specs.declared.refusal.ReadRefusal.{ReadRefusal}
use Rattle.t3_image_read.specs.declared.refusal.ReadRefusal.TheVariants as refusals
use Rattle.t3_image_read.specs.Refusal.{Refused}
use Rattle.t3_asm.specs.declared.refusal.AsmWhy.{AsmWhy}
use Rattle.t3_asm.specs.Refusals.{refusal}
use Rattle.t3_files.specs.Reading.{read_bytes}
use Rattle.t3_words.specs.Input.{InputFile, ImageFile, SourceFile, MadeImage}
use Rattle.t3_cli.specs.Outcome.{assembled}
use Rattle.t3_cli.specs.Cause.{IsAbsent}
use Rattle.t3_cli.specs.declared.images.no_image.NoImage.{NoImage}
use Rattle.t3_cli.specs.declared.images.no_image.NoImage.TheVariants as none

-- the file is to be an image, and its bytes are refused by this rule at this place
abbrev pub IsRefusedAt : InputFile → Files → ℕ → ReadWhy → Type 0
IsRefusedAt (SourceFile name) files place why = ⊥
IsRefusedAt (MadeImage number) files place why = ⊥
IsRefusedAt (ImageFile name) files place why = (file : List ℕ) × (get files name ≡ Some file) × Refused (read_bytes file) place why

-- the file is to be a source, and this line of it is bad, or it is too long
abbrev pub IsBadAt : InputFile → Files → ℕ → AsmWhy → Type 0
IsBadAt (ImageFile name) files line why = ⊥
IsBadAt (MadeImage number) files line why = ⊥
IsBadAt (SourceFile name) files line why =
    (file : List ℕ) × (get files name ≡ Some file) × (assembled (read_bytes file) ≡ Err (refusal line why))

-- why no image was read, assembled or made; of a failing device and of want of memory no more is known
abbrev pub HasNoImage : InputFile → NoImage → Files → Type 0
HasNoImage from none.Absent files = IsAbsent from files
HasNoImage from (none.Refused place why) files = IsRefusedAt from files place why
HasNoImage from (none.BadLine line why) files = IsBadAt from files line why
HasNoImage from (none.Failed refusal) files = Unit {0}

-- what a reader's refusal is told as
abbrev pub no_image_of : ReadRefusal → NoImage
no_image_of (refusals.At place why) = none.Refused place why
no_image_of refusals.NoMemory = none.Failed device.NoMemory

-- a failure, as a device answers one
abbrev pub device_answer : NoImage → Result (Unit {0}) DeviceRefusal
device_answer (none.Failed refusal) = Err refusal
device_answer _ = Ok tt

-- a fault raises the depot's count, and every other answer leaves it
abbrev pub CountsReading : {T : Type 0} → ℕ → ℕ → Result T NoImage → Type 0
CountsReading before after (Ok _) = after ≡ before
CountsReading before after (Err why) = MovesFaults before after (device_answer why)
