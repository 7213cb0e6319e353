-- The end of a text on a page.
use Rattle.std.specs.Prelude.{◌≡◌, ℕ, Bool, if◌then◌else◌, None, List, [], ◌++◌}
use Rattle.t3_console.specs.Page.{PageValue}
use Rattle.t3_console.specs.Inner.Stepping.{put, column_after, line_ending}

-- the word that isn't ended is put out, and a newline where the line is closed and isn't empty; then the page has neither
pub record EndsLine (old new : PageValue) (is_closed : Bool) (out_old out_new : List ℕ) : Type 0 where
  pub page : new ≡ record { width = old.width; column = None; word = [] }
  pub out : out_new ≡ out_old ++ (put old.width old.column old.word
      ++ (if is_closed then line_ending (column_after old.width old.column old.word) else []))
