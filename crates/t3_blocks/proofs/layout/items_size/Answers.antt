use Rattle.std.proofs.Common.{arith}
use Rattle.t3_blocks.proofs.Sizes.{size_within}
use Rattle.t3_blocks.proofs.layout.items_size.Goals as goal

pub size-size-requires-clause-few : goal.size-size-requires-clause-few
size-size-requires-clause-few g c =
    let loop = c.loop-item in
    omega (
      arith,
      size_within
          (g.L.Layout.text c.args.layout.now) c.args.items.now loop.item-index loop.size c.item-item.result c.loop-item-test.true
          c.item-item.is loop.invariant c.requires.few,
    )

pub overflow_add-size : goal.overflow_add-size
overflow_add-size g c =
    let loop = c.loop-item in
    omega (
      arith,
      c.size-size.ensures,
      size_within
          (g.L.Layout.text c.args.layout.now) c.args.items.now loop.item-index loop.size c.item-item.result c.loop-item-test.true
          c.item-item.is loop.invariant c.requires.few,
    )
