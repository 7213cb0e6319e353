use Rattle.std.proofs.Common.{◌∙◌, arith}
use Rattle.t3_ops.specs.References.{elements_of}
use Rattle.t3_ops.proofs.Contents.{get-within, get-past-length}
use Rattle.t3_ops.proofs.Appending.{append-more, append-all}
use Rattle.t3_ops.proofs.copying.append_elements.Goals as goal

pub loop-item-preserved : goal.loop-item-preserved
loop-item-preserved c =
    let xs = elements_of c.args.pools.now.constants c.args.list in
    let within = get-within xs c.loop-item.next c.in-Some.item c.in-Some.ensures.element in
    record {
      appended = c.in_ok-push.ensures.items
          ∙ append-more c.args.items.now.items c.loop-item.items.items xs c.loop-item.next c.in-Some.item c.loop-item.invariant.appended
          c.in-Some.ensures.element;
      within = omega arith;
    }

pub returns : goal.returns
returns c =
    let xs = elements_of c.args.pools.now.constants c.args.list in
    append-all c.args.items.now.items c.loop-item.items.items xs c.loop-item.next c.loop-item.invariant.appended
    (get-past-length xs c.loop-item.next c.in_default-element.ensures.element)
