use Rattle.std.proofs.Common.{nat_lt, rules}
use Rattle.std.proofs.lemmas.Fn.{always_returns_same}
use Rattle.t3_holder.specs.declared.holder.Holder.TheVariants.{Nil}
use Rattle.t3_load.proofs.Rising.{number, rising_answer}
use Rattle.t3_load.proofs.statics.are_rising.Goals as goal

pub returns : goal.returns
returns c =
    rising_answer c.args.props.now (record { number = 0; value = Nil }) c.is_sorted_by.result
    (c.is_sorted_by.ensures.cases (λ x y. nat_lt (number x) (number y)) (always_returns_same _ _ _ (λ a r f called. search rules)))
