use Rattle.std.proofs.Common.{◌≤◌, ◌<◌, ◌∙◌, arith}
use Rattle.t3_ops.proofs.Contents.{element-constant, element-past-constant, element-live}
use Rattle.t3_ops.proofs.values.ListItems.element.Goals as goal

pub returns-then-index-from-clause-element : goal.returns-then-index-from-clause-element
returns-then-index-from-clause-element c =
    let is = c.from.ensures in
    let past : c.in-Constant.count ≤ c.args.index = omega arith in
    element-past-constant c.args.pools.now.constants c.args.self c.in-Constant.first c.in-Constant.count c.args.index
    c.in-Constant.is c.requires past

pub returns-else-index-from-clause-element : goal.returns-else-index-from-clause-element
returns-else-index-from-clause-element c =
    let is = c.from.ensures in
    let within : c.args.index < c.in-Constant.count = omega arith in
    c.holder_at.ensures.read
    ∙ element-constant c.args.pools.now.constants c.args.self c.in-Constant.first c.in-Constant.count c.args.index
    c.in-Constant.is c.requires within

pub returns-in-Live-clause-element : goal.returns-in-Live-clause-element
returns-in-Live-clause-element c =
    element-live c.args.pools.now.constants c.args.self c.in-Live.items c.args.index c.item.result c.in-Live.is c.item.ensures.item
