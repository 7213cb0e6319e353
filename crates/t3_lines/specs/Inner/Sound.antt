-- A reader's place in what it has taken.
use Rattle.std.specs.Prelude.{◌≡◌, ℕ, ◌≤◌, ◌<◌, Bool, true, false, List, [], ◌++◌, length, take, drop}
use Rattle.std.specs.Str.Lines.{lines}
use Rattle.t3_lines.specs.Lines.{limit, ended_lines}

-- the next line begins at a place, before which so many lines stand, whatever else is to come
pub record IsSound (taken : List ℕ) (start given : ℕ) (is_ended : Bool) : Type 0 where
  pub within : start ≤ length taken
  pub limited : length taken ≤ limit
  pub few : given ≤ start
  pub short : is_ended ≡ true → length taken < limit
  pub counted : is_ended ≡ false → given ≡ ended_lines (take start taken)
  pub before : List (List ℕ)
  pub many : length before ≡ given
  pub cut : (more : List ℕ) → (is_ended ≡ true → more ≡ []) → lines (taken ++ more) ≡ before ++ lines (drop start taken ++ more)
