use Rattle.std.proofs.Common.{◌≡◌, ◌∙◌, take, map, nat_eq, sym, ap, subst, arith}
use Rattle.std.specs.List.{IsDistinct}
use Rattle.std.proofs.lemmas.List.{take_all}
use Rattle.t3_holder.specs.declared.holder.Holder.TheVariants.{Nil}
use Rattle.t3_load.proofs.ReadObjects.{distinct_again, not_distinct_read}
use Rattle.t3_load.proofs.Repeated.{repeated}
use Rattle.t3_load.proofs.Rising.{distinct_if_rising}
use Rattle.t3_load.proofs.statics.are_distinct.Goals as goal

pub returns-then-not-added : goal.returns-then-not-added
returns-then-not-added c = sym (not_distinct_read _
    (repeated c.args.props.now c.loop-prop.prop-index (record { number = 0; value = Nil }) c.loop-prop.seen.keys c.in_ok-_index.added
    c.loop-prop-test.true c.loop-prop.invariant.0 c.in_ok-_index.ensures.added c.if-not-added.true))

pub returns-then-are_rising : goal.returns-then-are_rising
returns-then-are_rising c = sym (distinct_again _ (distinct_if_rising _ (c.are_rising.ensures.0 c.if-are_rising.true)))

pub returns : goal.returns
returns c =
    let whole : take c.loop-prop.prop-index c.args.props.now ≡ c.args.props.now = take_all _ _ (omega (arith, c.loop-prop-test.false)) in
    sym (distinct_again _ (subst (IsDistinct nat_eq) (c.loop-prop.invariant.0 ∙ ap (map (λ prop. prop.number)) whole) c.loop-prop.invariant.1))
