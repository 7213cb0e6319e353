-- What a call takes while a line is wanted, and where it finds that line's end.
use Rattle.std.specs.Prelude.{◌≡◌, ℕ, ◌-◌, ◌≤◌, ◌<◌, Bool, true, false, ◌||◌, Option, Some, None, List, [], ◌∷◌, ◌++◌, length, take, drop, slice_index, Result, Ok, Err}
use Rattle.std.specs.List.{list_any, concat}
use Rattle.t3_io.specs.Session.{Session}
use Rattle.t3_io.specs.declared.refusal.DeviceRefusal.{DeviceRefusal}
use Rattle.t3_lines.specs.Lines.{limit, ended_lines}
use Rattle.t3_lines.specs.Reader.{AreWanted, TellsPieces, is_nothing}

-- one piece more was taken
pub record IsPiece (old new : List ℕ) (before after : Option Session) (count : ℕ) : Type 0 where
  pub piece : List ℕ
  pub is : new ≡ old ++ piece
  pub long : length piece ≡ count
  pub fits : length new ≤ limit
  pub told : TellsPieces before after (piece ∷ [])

-- and a refusal takes none
abbrev pub AddsPiece : List ℕ → List ℕ → Option Session → Option Session → Result ℕ DeviceRefusal → Type 0
AddsPiece old new before after (Ok count) = IsPiece old new before after count
AddsPiece old new before after (Err refusal) = (new ≡ old) × TellsPieces before after []

-- pieces were taken, each when it was wanted after so many lines
pub record TakesWanted (given : ℕ) (old new : List ℕ) (was_ended is_ended : Bool) (before after : Option Session) : Type 0 where
  pub pieces : List (List ℕ)
  pub taken : new ≡ old ++ concat pieces
  pub limited : length new ≤ limit
  pub wanted : AreWanted given old pieces
  pub once : was_ended ≡ true → pieces ≡ []
  pub ended : is_ended ≡ (was_ended || list_any is_nothing pieces)
  pub short : was_ended ≡ false → is_ended ≡ true → length new < limit
  pub told : TellsPieces before after pieces

-- the first newline is there
pub record IsLineEnd (bytes : List ℕ) (place : ℕ) : Type 0 where
  pub within : place < length bytes
  pub newline : slice_index bytes place ≡ 10
  pub first : ended_lines (take place bytes) ≡ 0

-- the first newline at or after a place
pub record IsEndFrom (start : ℕ) (bytes : List ℕ) (place : ℕ) : Type 0 where
  pub at_least : start ≤ place
  pub there : IsLineEnd (drop start bytes) (place - start)

-- there is none, and no more can be taken
pub record IsOpen (start : ℕ) (bytes : List ℕ) (is_ended : Bool) : Type 0 where
  pub none : ended_lines (drop start bytes) ≡ 0
  pub full : is_ended ≡ false → limit ≤ length bytes

abbrev pub FindsEnd : ℕ → List ℕ → Bool → Result (Option ℕ) DeviceRefusal → Type 0
FindsEnd start bytes is_ended (Ok (Some place)) = IsEndFrom start bytes place
FindsEnd start bytes is_ended (Ok None) = IsOpen start bytes is_ended
FindsEnd start bytes is_ended (Err refusal) = Unit {0}
