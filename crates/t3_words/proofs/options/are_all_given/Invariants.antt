use Rattle.std.proofs.Common.{◌≡◌, true, nat_eq, take, string_bytes}
use Rattle.std.specs.List.{list_all, list_any, starts_with}
use Rattle.t3_words.proofs.options.are_all_given.Given as goal

abbrev pub invariant-loop-word : goal.invariant-loop-word
invariant-loop-word l =
    list_all (λ word. list_any (λ prefix. starts_with nat_eq (string_bytes word) prefix.now) l.prefixes) (take l.word-index l.words) ≡ true
