use Rattle.std.proofs.Common.{◌≡◌, take, map, string_bytes}
use Rattle.std.specs.Option.{option_copied, option_to_list}
use Rattle.t3_words.specs.Options.{values_of}
use Rattle.t3_words.proofs.options.only_value.Given as goal

abbrev pub invariant-loop-word : goal.invariant-loop-word
invariant-loop-word l = values_of l.prefix (take l.word-index (map string_bytes l.words)) ≡ option_to_list (option_copied l.found)
