-- The commands: what each names and is told, and which are well formed.
use Rattle.std.specs.Prelude.{ℕ, ◌≤◌, List, [], ◌∷◌, Option}
use Rattle.t3_holder.specs.FileName.{IsFileName}
use Rattle.t3_words.specs.declared.command.Command.{Command}
use Rattle.t3_words.specs.declared.command.Command.TheVariants as words
use Rattle.t3_words.specs.declared.command.RunOptions.{RunOptions as DeclaredOptions}
use Rattle.t3_words.specs.Options.{IsWithin, row_of, Steps, Records, Savepoints, Width}

-- what a run may be told besides its image
pub record RunOptions : Type 0 where
  -- how many steps it makes at most
  pub steps : ℕ
  -- how many cells changed since its savepoints it keeps at most, and how many savepoints it holds
  pub records : ℕ
  pub savepoints : ℕ
  -- how wide its lines are
  pub width : ℕ

-- a command with its names and options
pub data CommandValue : Type 0 where
  Check : (image : List ℕ) → CommandValue
  Show : (image : List ℕ) → CommandValue
  Run : (image : List ℕ) (options : RunOptions) → CommandValue
  -- the pages stay under their masks where none is given
  Rewrite : (image out : List ℕ) (mask : Option ℕ) → CommandValue
  Listing : (image out : List ℕ) → CommandValue
  Asm : (source out : List ℕ) → CommandValue
  -- of the image that is made for this number
  Drill : (number : ℕ) → CommandValue

-- ---- how the parsed commands stand for these

abbrev pub options_value : DeclaredOptions → RunOptions
options_value options =
    record { steps = options.steps; records = options.records; savepoints = options.savepoints; width = options.width }

abbrev pub command_value : Command → CommandValue
command_value (words.Check image) = Check image.now
command_value (words.Show image) = Show image.now
command_value (words.Run image options) = Run image.now (options_value options)
command_value (words.Rewrite image out mask) = Rewrite image.now out.now mask
command_value (words.List image out) = Listing image.now out.now
command_value (words.Asm source out) = Asm source.now out.now
command_value (words.Drill number) = Drill number

-- ---- which are well formed

-- the names of files that a command has
abbrev pub names_of : CommandValue → List (List ℕ)
names_of (Check image) = image ∷ []
names_of (Show image) = image ∷ []
names_of (Run image options) = image ∷ []
names_of (Rewrite image out mask) = image ∷ out ∷ []
names_of (Listing image out) = image ∷ out ∷ []
names_of (Asm source out) = source ∷ out ∷ []
names_of (Drill number) = []

-- each is a name that a file may have
abbrev pub AreFileNames : List (List ℕ) → Type 0
AreFileNames [] = Unit {0}
AreFileNames (name ∷ names) = IsFileName name × AreFileNames names

-- the options of a run are within their bounds
pub record AreWithin (options : RunOptions) : Type 0 where
  pub steps : IsWithin (row_of Steps) options.steps
  pub records : IsWithin (row_of Records) options.records
  pub savepoints : IsWithin (row_of Savepoints) options.savepoints
  pub width : IsWithin (row_of Width) options.width

-- those of a run that is told none
abbrev pub default_options : RunOptions
default_options = record {
  steps = (row_of Steps).default;
  records = (row_of Records).default;
  savepoints = (row_of Savepoints).default;
  width = (row_of Width).default;
}

-- the greatest number of a drill
abbrev pub drill_limit : ℕ
drill_limit = 200

-- the numbers that a command has are within their bounds
abbrev pub HasGoodNumbers : CommandValue → Type 0
HasGoodNumbers (Run image options) = AreWithin options
HasGoodNumbers (Drill number) = number ≤ drill_limit
HasGoodNumbers command = Unit {0}

-- files may have its names, and its numbers are within their bounds
abbrev pub IsWellFormed : CommandValue → Type 0
IsWellFormed command = AreFileNames (names_of command) × HasGoodNumbers command
