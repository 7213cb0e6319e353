-- The options of a command: words that begin with `--NAME=`, each at most once; and those with a number, as a table.
use Rattle.std.specs.Prelude.{ℕ, ◌≤◌, Bool, nat_eq, codes, List, [], ◌∷◌, drop, length, map, Option, Some, None, if◌then◌else◌}
use Rattle.std.specs.List.{filter_map, list_all, list_any, starts_with}
use Rattle.std.specs.Option.{option_map}
use Rattle.t3_words.specs.Number.{number_within}

-- what a word has after a prefix, if it begins with it
abbrev pub value_after : List ℕ → List ℕ → Option (List ℕ)
value_after prefix word = if starts_with nat_eq word prefix then Some (drop (length prefix) word) else None

-- the values of the words that begin with a prefix, in their order
abbrev pub values_of : List ℕ → List (List ℕ) → List (List ℕ)
values_of prefix words = filter_map (value_after prefix) words

-- the value that an option has: the default where it isn't given, and none where it is given twice
abbrev pub option_of : {A : Type 0} → A → (List ℕ → Option A) → List (List ℕ) → Option A
option_of default read [] = Some default
option_of default read (value ∷ []) = read value
option_of default read (value ∷ more ∷ values) = None

-- a word begins with one of these prefixes
abbrev pub is_one_of : List (List ℕ) → List ℕ → Bool
is_one_of prefixes word = list_any (λ prefix. starts_with nat_eq word prefix) prefixes

-- each word does
abbrev pub are_all_given : List (List ℕ) → List (List ℕ) → Bool
are_all_given prefixes words = list_all (is_one_of prefixes) words

-- ---- the options with a number

-- the prefix of its word, the number where it isn't given, and the least and the most that may be given
pub record NumberOption : Type 0 where
  pub prefix : List ℕ
  pub default : ℕ
  pub least : ℕ
  pub most : ℕ

abbrev row : (prefix : List ℕ) (default least most : ℕ) → NumberOption
row prefix default least most = record { prefix = prefix; default = default; least = least; most = most }

-- the options of a run: how many steps, changed cells and savepoints at most, and how many columns
pub data RunOption : Type 0 where
  Steps : RunOption
  Records : RunOption
  Savepoints : RunOption
  Width : RunOption

-- the table of them: prefix, default, least, most
abbrev pub row_of : RunOption → NumberOption
row_of Steps = row (codes "--steps=") 100000000 1 4294967295
row_of Records = row (codes "--records=") 65536 1 1048576
row_of Savepoints = row (codes "--savepoints=") 128 1 1024
row_of Width = row (codes "--width=") 79 1 1000

-- the prefixes of the table
abbrev pub run_prefixes : List (List ℕ)
run_prefixes = map (λ option. (row_of option).prefix) (Steps ∷ Records ∷ Savepoints ∷ Width ∷ [])

-- a number is within the bounds of a row
pub record IsWithin (row : NumberOption) (number : ℕ) : Type 0 where
  pub least : row.least ≤ number
  pub most : number ≤ row.most

-- the number that the words give, or the default
abbrev pub number_of : NumberOption → List (List ℕ) → Option ℕ
number_of row words = option_of row.default (number_within row.least row.most) (values_of row.prefix words)

-- ---- the option of a rewriting

abbrev pub mask_prefix : List ℕ
mask_prefix = codes "--mask="

-- a byte, if it is given
abbrev pub mask_in : List (List ℕ) → Option (Option ℕ)
mask_in words = option_of None (λ value. option_map Some (number_within 0 255 value)) (values_of mask_prefix words)
