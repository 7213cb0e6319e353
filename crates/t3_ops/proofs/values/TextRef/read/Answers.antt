use Rattle.t3_ops.proofs.Contents.{text-read, text-stands}
use Rattle.t3_ops.proofs.values.TextRef.read.Goals as goal

pub returns-in_ok-first-in-Constant-clause-text : goal.returns-in_ok-first-in-Constant-clause-text
returns-in_ok-first-in-Constant-clause-text c =
    text-read c.args.pools.now.constants c.args.self c.in-Constant.address c.in_ok-first-in-Constant.first c.in_ok-first-in-Constant.length
    c.in-Constant.is c.in_ok-first-in-Constant.ensures.read

pub returns-in_ok-first-in-Constant-clause-stands : goal.returns-in_ok-first-in-Constant-clause-stands
returns-in_ok-first-in-Constant-clause-stands c =
    text-stands c.args.pools.now.constants c.in-Constant.address c.in_ok-first-in-Constant.first c.in_ok-first-in-Constant.length
    c.in_ok-first-in-Constant.ensures.read c.in_ok-first-in-Constant.ensures.bounded
