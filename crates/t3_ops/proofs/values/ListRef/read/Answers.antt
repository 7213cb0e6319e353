use Rattle.t3_ops.proofs.Contents.{list-read, list-stands}
use Rattle.t3_ops.proofs.values.ListRef.read.Goals as goal

pub returns-in_ok-first-in-Constant-clause-list : goal.returns-in_ok-first-in-Constant-clause-list
returns-in_ok-first-in-Constant-clause-list c =
    list-read c.args.pools.now.constants c.args.self c.in-Constant.address c.in_ok-first-in-Constant.first c.in_ok-first-in-Constant.count
    c.in-Constant.is c.in_ok-first-in-Constant.ensures.read

pub returns-in_ok-first-in-Constant-clause-stands : goal.returns-in_ok-first-in-Constant-clause-stands
returns-in_ok-first-in-Constant-clause-stands c =
    list-stands c.args.pools.now.constants c.in-Constant.address c.in_ok-first-in-Constant.first c.in_ok-first-in-Constant.count
    c.in_ok-first-in-Constant.ensures.read c.in_ok-first-in-Constant.ensures.bounded
