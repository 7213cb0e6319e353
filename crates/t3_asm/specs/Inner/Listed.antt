-- What the functions that append lines of a listing answer.
use Rattle.std.specs.Prelude.{◌≡◌, ℕ, List, ◌++◌, Result, Ok, Err}
use Rattle.t3_asm_line.specs.declared.line.ParsedLine.{ParsedLine}
use Rattle.t3_asm_line.specs.Listing.{listing_of}

-- the lines are appended
abbrev pub Lists : {T E : Type 0} → List ℕ → List ℕ → List ParsedLine → Result T E → Type 0
Lists old new lines (Ok done) = new ≡ old ++ listing_of lines
Lists old new lines (Err refusal) = Unit {0}
