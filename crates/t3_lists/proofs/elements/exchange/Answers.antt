use Rattle.std.proofs.Common.{◌∙◌, ◌<◌, ◌≤◌, ap, sym, length, set as slice_set, arith}
use Rattle.t3_undo.specs.StampedValue.{ValuePlace}
use Rattle.t3_lists.specs.Vector.{values_of, stamps_of, content_of}
use Rattle.t3_lists.specs.Inner.Elements.{exchanged, content_in, content_found}
use Rattle.t3_lists.proofs.ElementLists.{values-put, stamps-put, value-at, value-past}
use Rattle.t3_lists.proofs.elements.exchange.Goals as goal

pub returns-in-Some-clause-values : goal.returns-in-Some-clause-values
returns-in-Some-clause-values c =
    ap (λ (e : ValuePlace). values_of (slice_set c.args.elements.now.items c.in-Some.index e)) c.replace.ensures.set
    ∙ values-put c.args.elements.now.items c.in-Some.index c.value.result c.index_mut.result.now
    ∙ (λ i. slice_set (values_of c.args.elements.now.items) c.in-Some.index (c.value.ensures i))
    ∙ λ i. exchanged (values_of c.args.elements.now.items) (c.in-Some.ensures.index i) c.args.content

pub returns-in-Some-clause-stamps : goal.returns-in-Some-clause-stamps
returns-in-Some-clause-stamps c =
    let h : c.in-Some.index < length c.args.elements.now.items = omega (arith, c.if-index-len.true, c.len.ensures, c.args.elements.now.ok.0) in
    ap (λ (e : ValuePlace). stamps_of (slice_set c.args.elements.now.items c.in-Some.index e)) c.replace.ensures.set
    ∙ stamps-put c.args.elements.now.items c.in-Some.index c.value.result c.index_mut.result.now h c.index_mut.ensures.value

pub returns-in-Some-clause-old : goal.returns-in-Some-clause-old
returns-in-Some-clause-old c =
    let h : c.in-Some.index < length c.args.elements.now.items = omega (arith, c.if-index-len.true, c.len.ensures, c.args.elements.now.ok.0) in
    c.content_of.ensures ∙ ap content_of c.replace.ensures.old
    ∙ ap content_found (sym (value-at c.args.elements.now.items c.in-Some.index c.index_mut.result.now h c.index_mut.ensures.value))
    ∙ λ i. content_in (values_of c.args.elements.now.items) (c.in-Some.ensures.index i)

pub returns-in_default-clause-old : goal.returns-in_default-clause-old
returns-in_default-clause-old c =
    let h : length c.args.elements.now.items ≤ c.in-Some.index = omega (arith, c.if-index-len.false, c.len.ensures, c.args.elements.now.ok.0) in
    sym (ap content_found (value-past c.args.elements.now.items c.in-Some.index h))
    ∙ λ i. content_in (values_of c.args.elements.now.items) (c.in-Some.ensures.index i)
