use Rattle.std.proofs.Common.{◌+◌, ◌∙◌, Some, None, sym, ap}
use Rattle.t3_methods.proofs.Handlers.{handler_of-refused, handler_of-none, handler_of-table}
use Rattle.t3_methods.proofs.handler.handler_in.Goals as goal

pub returns-in-Err-clause-is : goal.returns-in-Err-clause-is
returns-in-Err-clause-is c =
    handler_of-refused c.args.pools.now.code c.args.method c.args.place c.args.matches.now c.in-Err.refusal (sym c.in-Err.is ∙ c.header_at.ensures.is)

pub returns-then-header-eq0-clause-is : goal.returns-then-header-eq0-clause-is
returns-then-header-eq0-clause-is c =
    handler_of-none c.args.pools.now.code c.args.method c.args.place c.args.matches.now c.in-Ok.header (sym c.in-Ok.is ∙ c.header_at.ensures.is)
    c.if-header-eq0.true

pub returns-in-Some-clause-is : goal.returns-in-Some-clause-is
returns-in-Some-clause-is c =
    handler_of-table c.args.pools.now.code c.args.method c.args.place (c.args.method + c.from.result) c.args.matches.now c.in-Ok.header
    (Some c.in-Some.handler) (sym c.in-Ok.is ∙ c.header_at.ensures.is) c.if-header-eq0.false (ap (λ n. c.args.method + n) c.from.ensures)
    (sym c.in-Some.is ∙ c.handler_by.ensures.is)

pub returns-in-None-clause-is : goal.returns-in-None-clause-is
returns-in-None-clause-is c =
    handler_of-table c.args.pools.now.code c.args.method c.args.place (c.args.method + c.from.result) c.args.matches.now c.in-Ok.header
    None (sym c.in-Ok.is ∙ c.header_at.ensures.is) c.if-header-eq0.false (ap (λ n. c.args.method + n) c.from.ensures)
    (sym c.in-None.is ∙ c.handler_by.ensures.is)
