-- The lines of an input, and what comes of wanting one of them.
use Rattle.std.specs.Prelude.{ℕ, ◌&&◌, Bool, ◌==◌, nat_le, if◌then◌else◌, Option, Some, None, List, length, take, map, filter, slice_get}
use Rattle.std.specs.Str.{is_utf8}
use Rattle.std.specs.Str.Lines.{lines}
use Rattle.t3_lines.specs.declared.line.WantedLine.{WantedLine}
use Rattle.t3_lines.specs.declared.line.WantedLine.TheVariants.{Line, EndOfInput, PastLimit}

abbrev pub is_newline : ℕ → Bool
is_newline byte = byte == 10

-- a question mark in place of a byte from 128 up
abbrev pub plain : ℕ → ℕ
plain byte = if nat_le 128 byte then 63 else byte

-- a line as it is given: it stands as it is where it is UTF-8
abbrev pub readable : List ℕ → List ℕ
readable line = if is_utf8 line then line else map plain line

-- the lines of an input: each ends before a newline, without the carriage return right before that newline,
-- and bytes after the last newline are a line too
abbrev pub lines_of : List ℕ → List (List ℕ)
lines_of input = map readable (lines input)

-- so many bytes of an input are taken at most
abbrev pub limit : ℕ
limit = 16777216

-- how many lines newlines end
abbrev pub ended_lines : List ℕ → ℕ
ended_lines bytes = length (filter is_newline bytes)

-- the first bytes don't end the line after so many, and the input has so many bytes
abbrev pub is_past_limit : List ℕ → ℕ → Bool
is_past_limit input given = nat_le limit (length input) && nat_le (ended_lines (take limit input)) given

abbrev pub line_or_end : Option (List ℕ) → WantedLine
line_or_end (Some line) = Line line
line_or_end None = EndOfInput

-- what comes of wanting a line of an input, where so many were given
abbrev pub wanted_line : List ℕ → ℕ → WantedLine
wanted_line input given = if is_past_limit input given then PastLimit else line_or_end (slice_get (lines_of input) given)
