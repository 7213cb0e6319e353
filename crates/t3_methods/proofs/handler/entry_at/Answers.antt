use Rattle.t3_methods.proofs.Tables.{entry_short, entry_shown}
use Rattle.t3_methods.proofs.Handlers.{entry_in-short, entry_in-shown}
use Rattle.t3_methods.proofs.handler.entry_at.Goals as goal

pub returns-then-window-lt-WINDOW_SIZE-clause-reads : goal.returns-then-window-lt-WINDOW_SIZE-clause-reads
returns-then-window-lt-WINDOW_SIZE-clause-reads c =
    entry_short c.args.pools.now.code c.args.at c.at-window.result.bytes.now c.at-window.ensures.shows c.if-window-lt-WINDOW_SIZE.true

pub returns-clause-reads : goal.returns-clause-reads
returns-clause-reads c =
    entry_shown c.args.pools.now.code c.args.at c.uint2.result c.uint2-2.result c.uint4.result c.uint2-3.result c.at-window.result.bytes.now
    c.at-window.ensures.shows.shows c.if-window-lt-WINDOW_SIZE.false c.uint2.ensures c.uint2-2.ensures c.uint4.ensures c.uint2-3.ensures

pub returns-then-window-lt-WINDOW_SIZE-clause-is : goal.returns-then-window-lt-WINDOW_SIZE-clause-is
returns-then-window-lt-WINDOW_SIZE-clause-is c =
    entry_in-short c.args.pools.now.code c.args.at c.at-window.result.bytes.now c.at-window.ensures.shows c.if-window-lt-WINDOW_SIZE.true

pub returns-clause-is : goal.returns-clause-is
returns-clause-is c =
    entry_in-shown c.args.pools.now.code c.args.at c.uint2.result c.uint2-2.result c.uint4.result c.uint2-3.result c.at-window.result.bytes.now
    c.at-window.ensures.shows.shows c.if-window-lt-WINDOW_SIZE.false c.uint2.ensures c.uint2-2.ensures c.uint4.ensures c.uint2-3.ensures
