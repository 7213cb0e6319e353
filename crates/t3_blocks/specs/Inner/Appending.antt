-- What the functions that append texts answer.
use Rattle.std.specs.Prelude.{◌≡◌, ℕ, List, ◌++◌, Result, Ok, Err}

-- what was there begins the bytes
pub record Keeps (old new : List ℕ) : Type 0 where
  pub more : List ℕ
  pub is : new ≡ old ++ more

-- the text is appended, or what was there is kept
abbrev pub Appends : {T E : Type 0} → List ℕ → List ℕ → List ℕ → Result T E → Type 0
Appends old new text (Ok done) = new ≡ old ++ text
Appends old new text (Err refusal) = Keeps old new
