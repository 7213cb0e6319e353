use Rattle.std.proofs.Common.{refl}
use Rattle.t3_methods.proofs.MethodHeaders.{header_short, header_shown, header_in-short, header_in-shown}
use Rattle.t3_methods.proofs.header.header_at.Goals as goal

pub returns-then-window-lt-WINDOW_SIZE-clause-finds : goal.returns-then-window-lt-WINDOW_SIZE-clause-finds
returns-then-window-lt-WINDOW_SIZE-clause-finds c =
    (refl, header_short c.args.pools.now.code c.args.method c.at-window.result.bytes.now c.at-window.ensures.shows c.if-window-lt-WINDOW_SIZE.true)

pub returns-then-window-lt-WINDOW_SIZE-clause-is : goal.returns-then-window-lt-WINDOW_SIZE-clause-is
returns-then-window-lt-WINDOW_SIZE-clause-is c =
    header_in-short c.args.pools.now.code c.args.method c.at-window.result.bytes.now c.at-window.ensures.shows c.if-window-lt-WINDOW_SIZE.true

pub returns-clause-finds : goal.returns-clause-finds
returns-clause-finds c =
    header_shown c.args.pools.now.code c.args.method c.ubyte-parameters.result c.ubyte.result c.uint2.result c.uint2-2.result c.uint2-3.result
    c.uint2-4.result c.at-window.result.bytes.now c.at-window.ensures.shows.shows c.if-window-lt-WINDOW_SIZE.false c.ubyte-parameters.ensures
    c.ubyte.ensures c.uint2.ensures c.uint2-2.ensures c.uint2-3.ensures c.uint2-4.ensures

pub returns-clause-is : goal.returns-clause-is
returns-clause-is c =
    header_in-shown c.args.pools.now.code c.args.method c.ubyte-parameters.result c.ubyte.result c.uint2.result c.uint2-2.result c.uint2-3.result
    c.uint2-4.result c.at-window.result.bytes.now c.at-window.ensures.shows.shows c.if-window-lt-WINDOW_SIZE.false c.ubyte-parameters.ensures
    c.ubyte.ensures c.uint2.ensures c.uint2-2.ensures c.uint2-3.ensures c.uint2-4.ensures
