use Rattle.std.proofs.Common.{◌∙◌, ◌<◌, ap, length, set as slice_set, arith}
use Rattle.t3_undo.specs.StampedValue.{ValuePlace}
use Rattle.t3_lists.specs.Vector.{values_of, stamps_of}
use Rattle.t3_lists.specs.Inner.Elements.{restamped}
use Rattle.t3_lists.proofs.ElementLists.{values-set, stamps-set}
use Rattle.t3_lists.proofs.elements.set_stamp.Goals as goal

pub returns-then-index-len-clause-values : goal.returns-then-index-len-clause-values
returns-then-index-len-clause-values c =
    let h : c.in-Some.index < length c.args.elements.now.items = omega (arith, c.if-index-len.true, c.len.ensures, c.args.elements.now.ok.0) in
    ap (λ (e : ValuePlace). values_of (slice_set c.args.elements.now.items c.in-Some.index e)) c.set_stamp.ensures
    ∙ values-set c.args.elements.now.items c.in-Some.index c.args.stamp c.index_mut.result.now h c.index_mut.ensures.value

pub returns-then-index-len-clause-stamps : goal.returns-then-index-len-clause-stamps
returns-then-index-len-clause-stamps c =
    ap (λ (e : ValuePlace). stamps_of (slice_set c.args.elements.now.items c.in-Some.index e)) c.set_stamp.ensures
    ∙ stamps-set c.args.elements.now.items c.in-Some.index c.args.stamp c.index_mut.result.now
    ∙ λ i. restamped (stamps_of c.args.elements.now.items) (c.in-Some.ensures.index i) c.args.stamp
