-- What is taken of a console's input while a command is carried out, and when.
use Rattle.std.specs.Prelude.{◌≡◌, ℕ, ◌+◌, ◌≤◌, List, [], ◌∷◌, ◌++◌, length, Option, Some, None}
use Rattle.std.specs.List.{AllByRecursion}
use Rattle.t3_io.specs.Session.{Session}
use Rattle.t3_lines.specs.Lines.{limit, ended_lines}
use Rattle.t3_run.specs.Act.{Act, shown_before}

-- the input that a console has left, where it tells it, and else any
abbrev pub IsInput : Option Session → List ℕ → Type 0
IsInput None input = Unit {0}
IsInput (Some session) input = input ≡ session.left

-- of what was said in all: when a read was made, so much of the input had been taken, and just that was shown which comes before the line that
-- was wanted, which is the one behind those that newlines had ended
pub record IsAskedFor (acts : List Act) (before : Session) (said : List ℕ) (asked : ℕ × ℕ) : Type 0 where
  pub taken : List ℕ
  pub left : List ℕ
  pub shown : List ℕ
  pub later : List ℕ
  pub is : before.left ≡ taken ++ left
  pub left_is : asked.0 ≡ length left
  pub wanted : shown_before (ended_lines taken) acts ≡ Some shown
  pub said_is : said ≡ shown ++ later
  pub shown_is : asked.1 ≡ length before.shown + length shown

-- so much more was shown, and a prefix of the input was taken, of at most 16,777,216 bytes
pub record HasMoved (before after : Session) (said : List ℕ) : Type 0 where
  pub taken : List ℕ
  pub left : before.left ≡ taken ++ after.left
  pub few : length taken ≤ limit
  pub shown : after.shown ≡ before.shown ++ said

-- a read that was made when nothing of the input was left is the last of these
abbrev pub IsLastAtEnd : List (ℕ × ℕ) → Type 0
IsLastAtEnd [] = Unit {0}
IsLastAtEnd (read ∷ reads) = (read.0 ≡ 0 → reads ≡ []) × IsLastAtEnd reads

-- and each read was made when a line was wanted of these acts, and none behind one that was made at the input's end; without a read nothing was
-- taken
pub record HasAsked (acts : List Act) (before after : Session) (said : List ℕ) : Type 0 where
  pub moved : HasMoved before after said
  pub added : List (ℕ × ℕ)
  pub asked : after.asked ≡ before.asked ++ added
  pub each : AllByRecursion (IsAskedFor acts before said) added
  pub last : IsLastAtEnd added
  pub none : added ≡ [] → moved.taken ≡ []

-- nothing is claimed of a console that doesn't tell
abbrev pub Moves : Option Session → Option Session → List ℕ → Type 0
Moves None after said = Unit {0}
Moves (Some before) None said = ⊥
Moves (Some before) (Some after) said = HasMoved before after said

abbrev pub AsksBy : List Act → Option Session → Option Session → List ℕ → Type 0
AsksBy acts None after said = Unit {0}
AsksBy acts (Some before) None said = ⊥
AsksBy acts (Some before) (Some after) said = HasAsked acts before after said
