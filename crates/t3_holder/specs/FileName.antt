-- The names that files may have.
use Rattle.std.specs.Prelude.{ℕ, Bool, false, ◌&&◌, ◌||◌, not, nat_le, ◌==◌, IsTrue, List, [], ◌∷◌, length}
use Rattle.std.specs.List.{list_all}
use Rattle.std.specs.Char.{is_ascii_alphanumeric}

-- `.`, `_` or `-`
abbrev pub is_name_mark : ℕ → Bool
is_name_mark byte = (byte == 46 || byte == 95) || byte == 45

-- a letter or a digit of ASCII, or one of the three marks
abbrev pub is_name_byte : ℕ → Bool
is_name_byte byte = is_ascii_alphanumeric byte || is_name_mark byte

-- a name begins with something other than `.` and `-`
abbrev pub may_begin : List ℕ → Bool
may_begin [] = false
may_begin (byte ∷ _) = not (byte == 46 || byte == 45)

-- 1 to 64 such bytes that may begin a name
abbrev pub is_file_name : List ℕ → Bool
is_file_name name = (nat_le (length name) 64 && may_begin name) && list_all is_name_byte name

abbrev pub IsFileName : List ℕ → Type 0
IsFileName name = IsTrue (is_file_name name)
