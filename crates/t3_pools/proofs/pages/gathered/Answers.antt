use Rattle.std.proofs.Common.{Ok, Err}
use Rattle.t3_pools.specs.Pool.{said_of}
use Rattle.t3_pools.proofs.Rules.{finds_both, refuses_page, refuses_so, keeps_all}
use Rattle.t3_pools.proofs.pages.gathered.Goals as goal

pub returns-in_err-both : goal.returns-in_err-both
returns-in_err-both c =
    let found = finds_both (said_of 1 c.args.blocks.now) (said_of 2 c.args.blocks.now) c.in_ok-code-2.code c.in_ok-constants.constants
    (Err c.in_err-both.field-0.0) c.in_ok-code-2.ensures c.in_ok-constants.ensures c.in_err-both.ensures in
    let refuses = refuses_page c.args.blocks.now c.in_err-both.field-0.0 c.in_ok-code.ensures.1.1 found in
    refuses_so c.args.blocks.now c.in_err-both.field-0.0 c.from_residual-in_err-both.result refuses c.from_residual-in_err-both.ensures.1

pub returns : goal.returns
returns c =
    let found = finds_both (said_of 1 c.args.blocks.now) (said_of 2 c.args.blocks.now) c.in_ok-code-2.code c.in_ok-constants.constants
    (Ok c.in_ok-both.field-0) c.in_ok-code-2.ensures c.in_ok-constants.ensures c.in_ok-both.ensures in
    (keeps_all c.args.blocks.now c.in_ok-code.ensures.1.1 found.1, found.0)
