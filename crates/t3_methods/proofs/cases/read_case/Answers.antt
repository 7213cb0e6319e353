use Rattle.std.proofs.Common.{rules, ◌∙◌}
use Rattle.t3_methods.proofs.Switching.{case_shown, case_short, case_unmeant}
use Rattle.t3_methods.proofs.cases.read_case.Goals as goal

pub returns-then-window-clause-reads : goal.returns-then-window-clause-reads
returns-then-window-clause-reads c = case_short c.args.pools.now.code c.args.at c.at-window.result.bytes.now c.at-window.ensures.shows c.if-window.true

pub returns-in_default-clause-reads : goal.returns-in_default-clause-reads
returns-in_default-clause-reads c =
    case_unmeant c.args.pools.now.code c.args.at c.at-window.result.bytes.now c.read_raw.result c.holder_of.result c.at-window.ensures.shows.shows c.if-window.false
    (c.read_raw.ensures ∙ c.five.ensures)
    (search rules) c.in_default.is c.holder_of.ensures.meant

pub returns-clause-reads : goal.returns-clause-reads
returns-clause-reads c =
    case_shown c.args.pools.now.code c.args.at c.at-window.result.bytes.now c.read_raw.result c.in-Some.holder c.int2.result c.at-window.ensures.shows.shows c.if-window.false
    (c.read_raw.ensures ∙ c.five.ensures)
    (search rules) c.in-Some.ensures.means c.int2.ensures
