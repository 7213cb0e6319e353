-- A page, by the text that it has taken since it was last at rest or closed.
use Rattle.std.specs.Prelude.{◌≡◌, ℕ, if◌then◌else◌, Option, Some, None, List, [], ◌∷◌, ◌++◌}
use Rattle.std.specs.List.{list_any}
use Rattle.t3_console.specs.Rendering.{is_separator, size_of, rendering, part_after, last_line}

-- the width, the column that the last line has come to, if it has a word yet, and the word that isn't ended
pub record PageValue : Type 0 where
  pub width : ℕ
  pub column : Option ℕ
  pub word : List ℕ

-- the text up to its last separator, that one included, and nothing where there is none
unfoldable pub ended_part : List ℕ → List ℕ
ended_part [] = []
ended_part (byte ∷ text) = if list_any is_separator (byte ∷ text) then byte ∷ ended_part text else []

-- the text after its last separator
abbrev pub open_word : List ℕ → List ℕ
open_word text = part_after is_separator text

-- what has been put out of a text so far
abbrev pub shown : ℕ → List ℕ → List ℕ
shown width text = rendering width (ended_part text)

-- the column that a line has come to, if there is anything on it
abbrev pub column_of : List ℕ → Option ℕ
column_of [] = None
column_of (byte ∷ line) = Some (size_of (byte ∷ line))

-- the page that has taken a text
abbrev pub page_after : ℕ → List ℕ → PageValue
page_after width text = record {
  width = width;
  column = column_of (last_line (shown width text));
  word = open_word text;
}

-- the page has taken this text
abbrev pub HasTaken : PageValue → List ℕ → Type 0
HasTaken page text = page ≡ page_after page.width text

-- what is put out takes what was shown to what is to be shown
pub record PutsOut (old new before after : List ℕ) : Type 0 where
  pub more : List ℕ
  pub put : new ≡ old ++ more
  pub is : before ++ more ≡ after

-- a piece is said after a text
pub record Says (text piece : List ℕ) (old new : PageValue) (out_old out_new : List ℕ) : Type 0 where
  pub page : new ≡ page_after old.width (text ++ piece)
  pub out : PutsOut out_old out_new (shown old.width text) (shown old.width (text ++ piece))

-- a text ends: all of it is put out as it is to be shown, and the page begins anew
pub record Ends (text whole : List ℕ) (old new : PageValue) (out_old out_new : List ℕ) : Type 0 where
  pub page : new ≡ page_after old.width []
  pub out : PutsOut out_old out_new (shown old.width text) whole
