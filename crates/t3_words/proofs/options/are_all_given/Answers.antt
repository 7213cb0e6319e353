-- The words' texts are looked at one by one.
use Rattle.std.proofs.Common.{arith}
use Rattle.std.proofs.lemmas.Grind.{common_steps}
use Rattle.std.proofs.lemmas.List.Folds.{list_all-map}
use Rattle.t3_words.proofs.options.are_all_given.Goals as goal

pub returns-then-not-is_one_of : goal.returns-then-not-is_one_of
returns-then-not-is_one_of c = rw list_all-map (grind (arith, common_steps))

pub returns : goal.returns
returns c = rw list_all-map (grind (arith, common_steps))
