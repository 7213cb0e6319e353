-- Which words are a command: a verb, names in order, and then options in any order.
use Rattle.std.specs.Prelude.{ℕ, codes, List, [], ◌∷◌, Option, Some, None, if◌then◌else◌}
use Rattle.std.specs.Option.{option_map, option_and_then}
use Rattle.std.specs.Str.{bytes_eq}
use Rattle.t3_holder.specs.FileName.{is_file_name}
use Rattle.t3_words.specs.Number.{number_within}
use Rattle.t3_words.specs.Options.{are_all_given, run_prefixes, number_of, RunOption, row_of, Steps, Records, Savepoints, Width, mask_prefix, mask_in}
use Rattle.t3_words.specs.Command.{CommandValue, Check, Show, Run, Rewrite, Listing, Asm, Drill, RunOptions, drill_limit}

-- ---- names

-- a word, if a file may have that name
abbrev pub file_name : List ℕ → Option (List ℕ)
file_name word = if is_file_name word then Some word else None

-- one name, and nothing after it
abbrev pub only_name : List (List ℕ) → Option (List ℕ)
only_name (name ∷ []) = file_name name
only_name _ = None

-- two names, and nothing after them
abbrev pub two_names : List (List ℕ) → Option (List ℕ × List ℕ)
two_names [] = None
two_names (name ∷ words) = option_and_then (λ first. option_map (λ second. (first, second)) (only_name words)) (file_name name)

-- ---- options

-- the options of a run, where there is a number of each
abbrev pub options_by : (steps records savepoints width : Option ℕ) → Option RunOptions
options_by (Some steps) (Some records) (Some savepoints) (Some width) =
    Some (record { steps = steps; records = records; savepoints = savepoints; width = width })
options_by steps records savepoints width = None

-- the options of a run, in any order
abbrev pub run_options : List (List ℕ) → Option RunOptions
run_options words =
    if are_all_given run_prefixes words
    then options_by (given Steps) (given Records) (given Savepoints) (given Width)
    else None
  where
    given : RunOption → Option ℕ
    given option = number_of (row_of option) words

-- the mask that a rewriting is given, if it is given one
abbrev pub mask_of : List (List ℕ) → Option (Option ℕ)
mask_of words = if are_all_given (mask_prefix ∷ []) words then mask_in words else None

-- ---- commands

-- a name, and options
abbrev pub run_of : List (List ℕ) → Option CommandValue
run_of [] = None
run_of (name ∷ options) = option_and_then (λ image. option_map (Run image) (run_options options)) (file_name name)

-- two names, and options
abbrev pub rewrite_of : List (List ℕ) → Option CommandValue
rewrite_of (name ∷ second ∷ options) =
    option_and_then (λ image. option_and_then (λ out. option_map (Rewrite image out) (mask_of options)) (file_name second)) (file_name name)
rewrite_of _ = None

-- a number, and nothing after it
abbrev pub drill_of : List (List ℕ) → Option CommandValue
drill_of (number ∷ []) = option_map Drill (number_within 0 drill_limit number)
drill_of _ = None

-- each verb, and the command that it and the words after it are
abbrev pub verbs : List (List ℕ × (List (List ℕ) → Option CommandValue))
verbs =
    (codes "check", λ words. option_map Check (only_name words))
    ∷ (codes "show", λ words. option_map Show (only_name words))
    ∷ (codes "run", run_of)
    ∷ (codes "rewrite", rewrite_of)
    ∷ (codes "list", λ words. option_map (λ names. Listing names.0 names.1) (two_names words))
    ∷ (codes "asm", λ words. option_map (λ names. Asm names.0 names.1) (two_names words))
    ∷ (codes "drill", drill_of)
    ∷ []

-- the command by the first row whose verb it is
abbrev pub command_in : List (List ℕ × (List (List ℕ) → Option CommandValue)) → List ℕ → List (List ℕ) → Option CommandValue
command_in [] verb words = None
command_in (row ∷ rows) verb words = if bytes_eq verb row.0 then row.1 words else command_in rows verb words

-- the command that the words are, if they are one
abbrev pub command_of : List (List ℕ) → Option CommandValue
command_of [] = None
command_of (verb ∷ words) = command_in verbs verb words
