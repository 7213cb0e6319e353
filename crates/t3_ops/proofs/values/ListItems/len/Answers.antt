use Rattle.std.proofs.Common.{◌∙◌}
use Rattle.t3_ops.proofs.Contents.{length-constant}
use Rattle.t3_ops.proofs.values.ListItems.len.Goals as goal

pub returns-in-Constant : goal.returns-in-Constant
returns-in-Constant c =
    c.from.ensures
    ∙ length-constant c.args.pools.now.constants c.args.self c.in-Constant.field-0 c.in-Constant.count c.in-Constant.is c.requires
