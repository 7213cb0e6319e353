use Rattle.std.proofs.Common.{sym, ap, subst, ◌∙◌}
use Rattle.std.proofs.lemmas.Result.{err_from_is_err_and}
use Rattle.t3_image_read.specs.Inner.Steps.{stream_of, blocks_after}
use Rattle.t3_image_read.proofs.Feeding.{refused_run, goes_on}
use Rattle.t3_image_read.proofs.reader.feed_blocks.Goals as goal

pub returns-in_err-count-clause-refused : goal.returns-in_err-count-clause-refused
returns-in_err-count-clause-refused g c =
    let p = err_from_is_err_and c.from_residual.result c.from_residual.ensures.1 in
    rw (p.1, p.2) (refused_run (stream_of c.args.taker.now)
    (stream_of c.loop-at.taker) c.args.piece.now c.loop-at.at c.in_err-count.field-0.0 c.loop-at.invariant.so_far
    c.in_err-count.ensures.refused)

pub loop-at-preserved-in-Nothing : goal.loop-at-preserved-in-Nothing
loop-at-preserved-in-Nothing g c =
    let now = c.loop-at.taker in
    let on = goes_on c.args.taker.now now c.take_run.new.self c.args.piece.now c.loop-at.at c.in_ok-count.count _
    _ c.loop-at.invariant.within c.loop-at.invariant.so_far c.in_ok-count.ensures.taken c.in-Nothing.is in
    let blocks = c.in_ok-count.ensures.blocks ∙ ap (blocks_after now.blocks) c.in-Nothing.is in
    record {
      within = on.0;
      sound = on.1.0;
      taken = subst (g.S.BlockSink.has_taken c.loop-at.sink) (sym blocks) c.loop-at.invariant.taken;
      so_far = on.1.1;
    }

pub loop-at-preserved : goal.loop-at-preserved
loop-at-preserved g c =
    let now = c.loop-at.taker in
    let on = goes_on c.args.taker.now now c.take_run.new.self c.args.piece.now c.loop-at.at c.in_ok-count.count _
    _ c.loop-at.invariant.within c.loop-at.invariant.so_far c.in_ok-count.ensures.taken c.in-Block.is in
    let blocks = c.in_ok-count.ensures.blocks ∙ ap (blocks_after now.blocks) c.in-Block.is in
    record {
      within = on.0;
      sound = on.1.0;
      taken = subst (g.S.BlockSink.has_taken c.take.new.self) (sym blocks)
          (c.in_ok-take-in-Block.ensures now.blocks c.loop-at.invariant.taken);
      so_far = on.1.1;
    }

pub returns-in-End-clause-taken : goal.returns-in-End-clause-taken
returns-in-End-clause-taken g c =
    goes_on c.args.taker.now c.loop-at.taker c.take_run.new.self c.args.piece.now c.loop-at.at c.in_ok-count.count _
    _ c.loop-at.invariant.within c.loop-at.invariant.so_far c.in_ok-count.ensures.taken c.in-End.is

pub take-requires : goal.take-requires
take-requires g c =
    let on = goes_on c.args.taker.now c.loop-at.taker c.take_run.new.self c.args.piece.now c.loop-at.at c.in_ok-count.count _
    _ c.loop-at.invariant.within c.loop-at.invariant.so_far c.in_ok-count.ensures.taken c.in-Block.is in
    on.1.2
