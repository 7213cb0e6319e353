-- What the functions that append texts answer.
use Rattle.std.specs.Prelude.{◌≡◌, ℕ, List, ◌++◌, Result, Ok, Err}
use Rattle.t3_asm_line.specs.declared.argument.Argument.{Argument}
use Rattle.t3_asm_line.specs.declared.argument.Argument.TheVariants as arguments
use Rattle.t3_asm_line.specs.declared.listing.Listed.{Listed}
use Rattle.t3_asm_line.specs.declared.listing.Listed.TheVariants.{Number, Text}

-- what was there begins the bytes
pub record Keeps (old new : List ℕ) : Type 0 where
  pub more : List ℕ
  pub is : new ≡ old ++ more

-- the text is appended, or what was there is kept
abbrev pub Appends : {T E : Type 0} → List ℕ → List ℕ → List ℕ → Result T E → Type 0
Appends old new text (Ok done) = new ≡ old ++ text
Appends old new text (Err refusal) = Keeps old new

-- the argument that is spelled
abbrev pub argument_of : Listed → Argument
argument_of (Number n) = arguments.Number n
argument_of (Text bytes) = arguments.Text bytes.now
