use Rattle.std.proofs.Common.{◌≤◌, length, ◌∙◌, arith}
use Rattle.t3_ops.specs.Elements.{vector_items}
use Rattle.t3_ops.proofs.Appending.{vector-element, vector-none, vector-length, append-more, append-all}
use Rattle.t3_ops.proofs.copying.append_vector.Goals as goal

pub returns-in_default : goal.returns-in_default
returns-in_default c =
    absurd (vector-none c.args.vector.now c.args.length c.loop-index.index c.requires c.loop-index-test.true c.in_default.ensures)

pub loop-index-preserved : goal.loop-index-preserved
loop-index-preserved c =
    let xs = vector_items c.args.vector.now in
    c.in_ok-push.ensures.items
    ∙ append-more c.args.items.now.items c.loop-index.items.items xs c.loop-index.index c.in-Some.item c.loop-index.invariant
    (c.in-Some.ensures ∙ vector-element c.args.vector.now c.args.length c.loop-index.index c.requires)

pub returns : goal.returns
returns c =
    let xs = vector_items c.args.vector.now in
    let long = vector-length c.args.vector.now c.args.length c.requires in
    let past = c.loop-index-test.false in
    let all : length xs ≤ c.loop-index.index = omega arith in
    append-all c.args.items.now.items c.loop-index.items.items xs c.loop-index.index c.loop-index.invariant all
