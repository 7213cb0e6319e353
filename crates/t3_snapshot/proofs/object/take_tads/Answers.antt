use Rattle.std.proofs.Common.{◌≡◌, sym, ap, ◌∙◌, true}
use Rattle.t3_snapshot.specs.Inner.Reading.{are_rising}
use Rattle.t3_snapshot.proofs.Rising.{rising_distinct, rising_from}
use Rattle.t3_snapshot.proofs.object.take_tads.Goals as goal

pub returns-clause-rising : goal.returns-clause-rising
returns-clause-rising c =
    let rise : are_rising 0 c.in_ok-props.props.items ≡ true =
    ap (are_rising 0) (sym c.deref.ensures.value) ∙ sym c.are_rising.ensures ∙ c.if-not-are_rising.false in
    rising_from 0 _ rise

pub invariant_of-props : goal.invariant_of-props
invariant_of-props c =
    let rise : are_rising 0 c.in_ok-props.props.items ≡ true =
    ap (are_rising 0) (sym c.deref.ensures.value) ∙ sym c.are_rising.ensures ∙ c.if-not-are_rising.false in
    rising_distinct 0 _ (rising_from 0 _ rise)
