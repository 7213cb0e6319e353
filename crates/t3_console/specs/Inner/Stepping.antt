-- The page byte by byte: what each byte puts out, and how the page stands after it.
use Rattle.std.specs.Prelude.{◌≡◌, ℕ, suc, ◌+◌, ◌≤◌, false, true, ◌==◌, nat_le, if◌then◌else◌, Option, Some, None, List, [], ◌∷◌, ◌++◌, length, take, drop, slice_index}
use Rattle.std.specs.List.{list_any}
use Rattle.t3_console.specs.Rendering.{is_newline, is_separator, size_of}

-- the column that the line has come to, and the word that isn't ended
pub record State : Type 0 where
  pub column : Option ℕ
  pub word : List ℕ

abbrev pub start : State
start = record { column = None; word = [] }

-- the byte before a word of this size
abbrev pub lead : ℕ → Option ℕ → ℕ → List ℕ
lead width None size = []
lead width (Some column) size = if nat_le (column + 1 + size) width then 32 ∷ [] else 10 ∷ []

-- the column after such a word
abbrev pub column_past : ℕ → Option ℕ → ℕ → ℕ
column_past width None size = size
column_past width (Some column) size = if nat_le (column + 1 + size) width then column + 1 + size else size

-- a word that is ended is put out, and nothing is no word
abbrev pub put : ℕ → Option ℕ → List ℕ → List ℕ
put width column [] = []
put width column (byte ∷ word) = lead width column (size_of (byte ∷ word)) ++ byte ∷ word

abbrev pub column_after : ℕ → Option ℕ → List ℕ → Option ℕ
column_after width column [] = column
column_after width column (byte ∷ word) = Some (column_past width column (size_of (byte ∷ word)))

-- what a separator puts out by itself, and the column after it
abbrev pub separator_text : ℕ → List ℕ
separator_text byte = if is_newline byte then 10 ∷ [] else []

abbrev pub column_after_separator : ℕ → Option ℕ → Option ℕ
column_after_separator byte column = if is_newline byte then None else column

-- a newline, where there is anything on the line
abbrev pub line_ending : Option ℕ → List ℕ
line_ending None = []
line_ending (Some column) = 10 ∷ []

unfoldable pub put_byte : ℕ → State → ℕ → List ℕ
put_byte width s byte = if is_separator byte then put width s.column s.word ++ separator_text byte else []

unfoldable pub after_byte : ℕ → State → ℕ → State
after_byte width s byte =
    if is_separator byte
    then record { column = column_after_separator byte (column_after width s.column s.word); word = [] }
    else record { column = s.column; word = s.word ++ byte ∷ [] }

abbrev pub put_text : ℕ → State → List ℕ → List ℕ
put_text width s [] = []
put_text width s (byte ∷ text) = put_byte width s byte ++ put_text width (after_byte width s byte) text

abbrev pub after_text : ℕ → State → List ℕ → State
after_text width s [] = s
after_text width s (byte ∷ text) = after_text width (after_byte width s byte) text

-- so many bytes before the first separator, of this size
pub record IsNextWord (text : List ℕ) (long size : ℕ) : Type 0 where
  pub within : suc long ≤ length text
  pub whole : list_any is_separator (take long text) ≡ false
  pub ended : is_separator (slice_index text long) ≡ true
  pub sized : size ≡ size_of (take long text)

-- the text was put out up to its last separator, at which so many bytes end
pub record PutsWords (width : ℕ) (s : State) (text out_old out_new : List ℕ) (column : Option ℕ) (at : ℕ) : Type 0 where
  pub within : at ≤ length text
  pub rest : list_any is_separator (drop at text) ≡ false
  pub put : out_new ≡ out_old ++ put_text width s (take at text)
  pub after : after_text width s (take at text) ≡ record { column = column; word = if at == 0 then s.word else [] }
