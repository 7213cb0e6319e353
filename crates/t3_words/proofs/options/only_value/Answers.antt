use Rattle.std.proofs.Common.{◌≡◌, ◌+◌, List, Option, Bor, ℕ, take, map, string_bytes, sym, subst, arith}
use Rattle.std.specs.Option.{option_copied, option_to_list}
use Rattle.t3_words.specs.Options.{values_of}
use Rattle.t3_words.proofs.OptionValues.{next_none, next_first, next_second, values_found}
use Rattle.t3_words.proofs.options.only_value.Goals.{in-Some+else-is_some, in_default}
use Rattle.t3_words.proofs.options.only_value.Goals as goal

pub returns-then-is_some : goal.returns-then-is_some
returns-then-is_some c =
    sym (next_second string_bytes c.args.prefix.now c.args.words.now c.loop-word.word-index c.word-item.result c.loop-word.found
    c.in-Some.value.now c.loop-word-test.true c.word-item.is (sym c.if-is_some.ensures) c.loop-word.invariant c.in-Some.ensures)

pub loop-word-preserved : goal.loop-word-preserved
loop-word-preserved c =
    let prefix = c.args.prefix.now in
    let words = c.args.words.now in
    let at = c.loop-word.word-index in
    let Finds : Option (Bor (List ℕ)) → Type 0 =
    λ found. values_of prefix (take (at + 1) (map string_bytes words)) ≡ option_to_list (option_copied found) in
    elim c.match-value_after.branch [
      | in-Some+else-is_some w ↦
          subst Finds (sym w.found-is)
          (next_first string_bytes prefix words at c.word-item.result c.loop-word.found w.in-Some.value.now c.loop-word-test.true
          c.word-item.is (sym w.if-is_some.ensures) c.loop-word.invariant w.in-Some.ensures)
      | in_default w ↦
          subst Finds (sym w.found-is)
          (next_none string_bytes prefix words at c.word-item.result (option_copied c.loop-word.found) c.loop-word-test.true
          c.word-item.is c.loop-word.invariant w.in_default.ensures)
    ]

pub returns : goal.returns
returns c =
    sym (values_found string_bytes c.args.prefix.now c.args.words.now c.loop-word.word-index (option_copied c.loop-word.found)
    (omega arith) c.loop-word.invariant)
