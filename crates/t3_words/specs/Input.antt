-- Which file a command reads and as what, and which it puts.
use Rattle.std.specs.Prelude.{ℕ, List, []}
use Rattle.t3_words.specs.Command.{CommandValue, Check, Show, Run, Rewrite, Listing, Asm, Drill}

-- what a command begins with: the file that it reads, and what that is read as, or an image that is made
pub data InputFile : Type 0 where
  ImageFile : (name : List ℕ) → InputFile
  SourceFile : (name : List ℕ) → InputFile
  MadeImage : (number : ℕ) → InputFile

abbrev pub input_of : CommandValue → InputFile
input_of (Check name) = ImageFile name
input_of (Show name) = ImageFile name
input_of (Run name options) = ImageFile name
input_of (Rewrite name out mask) = ImageFile name
input_of (Listing name out) = ImageFile name
input_of (Asm name out) = SourceFile name
input_of (Drill number) = MadeImage number

-- the name of the file that is read; where none is, the empty name, which no file has
abbrev pub file_of : InputFile → List ℕ
file_of (ImageFile name) = name
file_of (SourceFile name) = name
file_of (MadeImage number) = []

-- the name of the file that is put, or of that which is read where none is
abbrev pub out_of : CommandValue → List ℕ
out_of (Rewrite name out mask) = out
out_of (Listing name out) = out
out_of (Asm source out) = out
out_of command = file_of (input_of command)
