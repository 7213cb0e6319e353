-- How a text is laid out on lines of a width: paragraphs, and in them words on greedy lines.
use Rattle.std.specs.Prelude.{ℕ, ◌+◌, Bool, true, false, not, ◌&&◌, ◌||◌, ◌==◌, nat_le, if◌then◌else◌, List, [], ◌∷◌, ◌++◌, length, map, filter}
use Rattle.std.specs.List.{slice_split, join_with_byte, list_any}

-- a newline parts paragraphs
abbrev pub is_newline : ℕ → Bool
is_newline byte = byte == 10

-- a space or a tab parts words
abbrev pub is_gap : ℕ → Bool
is_gap byte = byte == 32 || byte == 9

abbrev pub is_separator : ℕ → Bool
is_separator byte = is_newline byte || is_gap byte

-- a byte that doesn't continue a character of UTF-8
abbrev pub begins_character : ℕ → Bool
begins_character byte = not (nat_le 128 byte && nat_le byte 191)

-- how long a text is shown to be: its bytes but those that continue a character
abbrev pub size_of : List ℕ → ℕ
size_of text = length (filter begins_character text)

abbrev pub is_word : List ℕ → Bool
is_word [] = false
is_word (byte ∷ bytes) = true

-- the words of a paragraph
abbrev pub words_of : List ℕ → List (List ℕ)
words_of paragraph = filter is_word (slice_split is_gap paragraph)

-- words on a line that has come to a column: each after a space where it fits, and else on a new line
unfoldable pub following : ℕ → ℕ → List (List ℕ) → List ℕ
following width column [] = []
following width column (word ∷ words) =
    if nat_le (column + 1 + size_of word) width
    then 32 ∷ (word ++ following width (column + 1 + size_of word) words)
    else 10 ∷ (word ++ following width (size_of word) words)

-- words on lines of a width; the first is written as it is
abbrev pub filled : ℕ → List (List ℕ) → List ℕ
filled width [] = []
filled width (word ∷ words) = word ++ following width (size_of word) words

-- a text on lines of a width: the words of each paragraph, parted by newlines
unfoldable pub rendering : ℕ → List ℕ → List ℕ
rendering width text = join_with_byte 10 (map (λ paragraph. filled width (words_of paragraph)) (slice_split is_newline text))

-- what stands after the last byte that passes the test, or all where none does
unfoldable pub part_after : (ℕ → Bool) → List ℕ → List ℕ
part_after test [] = []
part_after test (byte ∷ bytes) = if list_any test (byte ∷ bytes) then part_after test bytes else byte ∷ bytes

-- the last line of what was put out
abbrev pub last_line : List ℕ → List ℕ
last_line out = part_after is_newline out

-- a newline, where the last line isn't empty
abbrev pub newline_due : List ℕ → List ℕ
newline_due [] = []
newline_due (byte ∷ bytes) = 10 ∷ []

-- a text on its lines, of which the last is ended too
abbrev pub closed_rendering : ℕ → List ℕ → List ℕ
closed_rendering width text = rendering width text ++ newline_due (last_line (rendering width text))
