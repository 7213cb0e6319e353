-- A reader of lines, by the bytes that it has taken and the lines that it has given.
use Rattle.std.specs.Prelude.{◌≡◌, ℕ, ◌+◌, ◌-◌, ◌≤◌, ◌<◌, Bool, true, false, ◌||◌, Option, Some, None, List, [], ◌∷◌, ◌++◌, length, Result, Ok, Err}
use Rattle.std.specs.List.{list_any, concat, AllByRecursion}
use Rattle.std.specs.Str.{IsUtf8}
use Rattle.t3_io.specs.Session.{Session}
use Rattle.t3_io.specs.declared.refusal.DeviceRefusal.{DeviceRefusal}
use Rattle.t3_lines.specs.declared.line.WantedLine.{WantedLine}
use Rattle.t3_lines.specs.declared.line.WantedLine.TheVariants.{Line, EndOfInput, PastLimit}
use Rattle.t3_lines.specs.Lines.{limit, ended_lines}

-- all that it has taken of the input, how many lines it has given, and whether it has come to the input's end
pub record ReaderValue : Type 0 where
  pub taken : List ℕ
  pub given : ℕ
  pub is_ended : Bool

abbrev pub new_reader : ReaderValue
new_reader = record { taken = []; given = 0; is_ended = false }

-- an input that begins with what was taken, and has no more where the reader has come to its end
pub record IsInputOf (reader : ReaderValue) (input : List ℕ) : Type 0 where
  pub more : List ℕ
  pub is : input ≡ reader.taken ++ more
  pub ended : reader.is_ended ≡ true → more ≡ []

-- of an input, the console has left what the reader hasn't taken, and nothing where the reader has come to its end
pub record IsReading (input : List ℕ) (reader : ReaderValue) (session : Session) : Type 0 where
  pub is : input ≡ reader.taken ++ session.left
  pub ended : reader.is_ended ≡ true → session.left ≡ []

-- a read was made when the bytes taken before it didn't end the line after so many, nor reached the limit;
-- one that gave nothing was the last
pub record IsWanted (given : ℕ) (taken piece : List ℕ) (later : List (List ℕ)) : Type 0 where
  pub unended : ended_lines taken ≡ given
  pub room : length taken < limit
  pub fits : length (taken ++ piece) ≤ limit
  pub last : piece ≡ [] → later ≡ []

-- each of these pieces was read when it was wanted
abbrev pub AreWanted : ℕ → List ℕ → List (List ℕ) → Type 0
AreWanted given taken [] = Unit {0}
AreWanted given taken (piece ∷ pieces) = IsWanted given taken piece pieces × AreWanted given (taken ++ piece) pieces

abbrev pub is_nothing : List ℕ → Bool
is_nothing [] = true
is_nothing (byte ∷ bytes) = false

-- how much input was left, and how much was shown, before each of these reads
abbrev pub asked_by : ℕ → ℕ → List (List ℕ) → List (ℕ × ℕ)
asked_by left shown [] = []
asked_by left shown (piece ∷ pieces) = (left, shown) ∷ asked_by (left - length piece) shown pieces

-- the pieces were taken of the console's input, one after the other, and nothing else was done to it
pub record TakesPieces (before after : Session) (pieces : List (List ℕ)) : Type 0 where
  pub left : before.left ≡ concat pieces ++ after.left
  pub ended : list_any is_nothing pieces ≡ true → after.left ≡ []
  pub shown : after.shown ≡ before.shown
  pub asked : after.asked ≡ before.asked ++ asked_by (length before.left) (length before.shown) pieces

-- nothing is claimed of a console that doesn't tell
abbrev pub TellsPieces : Option Session → Option Session → List (List ℕ) → Type 0
TellsPieces None after pieces = Unit {0}
TellsPieces (Some before) None pieces = ⊥
TellsPieces (Some before) (Some after) pieces = TakesPieces before after pieces

-- what a call took of the input, whatever it answered: nothing once the reader has come to the end, and else pieces that were wanted
pub record Takes (old new : ReaderValue) (before after : Option Session) : Type 0 where
  pub pieces : List (List ℕ)
  pub taken : new.taken ≡ old.taken ++ concat pieces
  pub wanted : AreWanted old.given old.taken pieces
  pub once : old.is_ended ≡ true → pieces ≡ []
  pub ended : new.is_ended ≡ (old.is_ended || list_any is_nothing pieces)
  pub told : TellsPieces before after pieces

-- of an input, a read was made where so many bytes were left and so many shown: what had been taken of it ended so many lines and no more, and was
-- below the limit
pub record IsAskedWith (input : List ℕ) (given shown : ℕ) (asked : ℕ × ℕ) : Type 0 where
  pub taken : List ℕ
  pub left : List ℕ
  pub is : input ≡ taken ++ left
  pub left_is : asked.0 ≡ length left
  pub shown_is : asked.1 ≡ shown
  pub unended : ended_lines taken ≡ given
  pub room : length taken < limit

-- each read that a call added to those of a console was made so, while the line after so many was wanted
pub record AsksFor (input : List ℕ) (given : ℕ) (before after : Session) : Type 0 where
  pub added : List (ℕ × ℕ)
  pub is : after.asked ≡ before.asked ++ added
  pub each : AllByRecursion (IsAskedWith input given (length before.shown)) added

-- only a reader that has come to the end answers that no line is left
abbrev pub IsAtEnd : ReaderValue → WantedLine → Type 0
IsAtEnd reader (Line line) = Unit {0}
IsAtEnd reader EndOfInput = reader.is_ended ≡ true
IsAtEnd reader PastLimit = Unit {0}

-- one more line is given by who answers it, and by no other
abbrev pub CountsLine : ℕ → ℕ → Result WantedLine DeviceRefusal → Type 0
CountsLine before after (Ok (Line line)) = after ≡ before + 1
CountsLine before after (Ok EndOfInput) = after ≡ before
CountsLine before after (Ok PastLimit) = after ≡ before
CountsLine before after (Err refusal) = after ≡ before

-- a line is UTF-8
abbrev pub IsText : WantedLine → Type 0
IsText (Line line) = IsUtf8 line
IsText EndOfInput = Unit {0}
IsText PastLimit = Unit {0}
