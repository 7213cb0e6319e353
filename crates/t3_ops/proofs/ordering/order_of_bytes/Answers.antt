use Rattle.std.proofs.Common.{◌∙◌, arith}
use Rattle.t3_ops.specs.References.{bytes_of}
use Rattle.t3_ops.proofs.Fronts.{pieces-end, pieces-apart, pieces-alike}
use Rattle.t3_ops.proofs.ordering.order_of_bytes.Goals as goal

pub returns-then-size-eq0 : goal.returns-then-size-eq0
returns-then-size-eq0 c =
    let xs = bytes_of c.args.pools.now.constants c.args.left in
    let ys = bytes_of c.args.pools.now.constants c.args.right in
    let size = c.min-size.ensures in
    let none = c.if-size-eq0.true in
    c.cmp.ensures
    ∙ pieces-end xs ys c.piece-mine.result.now c.piece-other.result.now c.pieces.at c.pieces.invariant c.piece-mine.ensures.first
    c.piece-other.ensures.first c.piece-mine.ensures.some c.piece-other.ensures.some (omega arith)

pub overflow_add-at : goal.overflow_add-at
overflow_add-at c =
    let size = c.min-size.ensures in
    let fits = c.piece-mine.ensures.fits in
    omega arith

pub pieces-preserved : goal.pieces-preserved
pieces-preserved c =
    let xs = bytes_of c.args.pools.now.constants c.args.left in
    let ys = bytes_of c.args.pools.now.constants c.args.right in
    let size = c.min-size.ensures in
    pieces-alike xs ys c.piece-mine.result.now c.piece-other.result.now c.pieces.at c.min-size.result c.pieces.invariant
    c.piece-mine.ensures.first c.piece-other.ensures.first (omega arith) (omega arith) c.in-Equal.ensures

pub returns-in_default : goal.returns-in_default
returns-in_default c =
    let xs = bytes_of c.args.pools.now.constants c.args.left in
    let ys = bytes_of c.args.pools.now.constants c.args.right in
    let size = c.min-size.ensures in
    pieces-apart xs ys c.piece-mine.result.now c.piece-other.result.now c.pieces.at c.min-size.result c.cmp-in-pieces.result
    c.pieces.invariant c.piece-mine.ensures.first c.piece-other.ensures.first (omega arith) (omega arith) c.cmp-in-pieces.ensures c.in_default.not-Equal
