use Rattle.std.proofs.Common.{sym, ◌∙◌}
use Rattle.std.specs.Prelude.{codes}
use Rattle.std.proofs.lemmas.Slice.Eq.{bytes_eq-Decides}
use Rattle.t3_words.proofs.Spelled.{zero-spelled, positive-spelled, not-zero}
use Rattle.t3_words.proofs.number.spelled_number.Goals as goal

pub returns-then-eq : goal.returns-then-eq
returns-then-eq c = zero-spelled c.args.text.now ((bytes_eq-Decides c.args.text.now (codes "0")).0 (sym c.eq.ensures ∙ c.if-eq.true))

pub returns : goal.returns
returns c =
    c.positive_number.ensures
    ∙ positive-spelled c.args.text.now (not-zero c.args.text.now c.eq.result c.eq.ensures c.if-eq.false)
