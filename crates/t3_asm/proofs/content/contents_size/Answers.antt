use Rattle.std.proofs.Common.{length, sym, ap, arith}
use Rattle.t3_asm.proofs.Steps.{contents_ended, contents_past}
use Rattle.t3_asm.proofs.content.contents_size.Goals as goal

pub returns-then-is_ended_by : goal.returns-then-is_ended_by
returns-then-is_ended_by c labels =
    let loop = c.loop-item in
    let none = contents_ended c.args.level labels c.args.items.now loop.item-index c.item-item.result c.item-item.is c.loop-item-test.true
    (sym c.if-is_ended_by.ensures) in
    omega (arith, loop.invariant.0, loop.invariant.1 labels, ap length none)

pub returns : goal.returns
returns c labels =
    let loop = c.loop-item in
    let none = contents_past c.args.level labels c.args.items.now loop.item-index c.loop-item-test.false in
    omega (arith, loop.invariant.0, loop.invariant.1 labels, ap length none)
