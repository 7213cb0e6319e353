-- Labels: letters, digits and `_`.
use Rattle.std.specs.Prelude.{ℕ, ◌-◌, Bool, ◌&&◌, ◌||◌, ◌==◌, nat_lt, if◌then◌else◌, List, length, take, slice_index, Option, Some, None}
use Rattle.std.specs.Char.{is_ascii_alphanumeric}
use Rattle.std.specs.List.{list_all}

-- a letter or a digit of ASCII, or `_`
abbrev pub is_label_byte : ℕ → Bool
is_label_byte byte = is_ascii_alphanumeric byte || byte == 95

-- one such byte or more
abbrev pub is_label : List ℕ → Bool
is_label bytes = nat_lt 0 (length bytes) && list_all is_label_byte bytes

-- the label that a word of a label and `:` puts
unfoldable pub label_put : List ℕ → Option (List ℕ)
label_put word =
    let front = take (length word - 1) word in
    if slice_index word (length word - 1) == 58 && is_label front then Some front else None
