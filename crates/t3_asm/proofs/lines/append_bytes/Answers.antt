use Rattle.std.proofs.Common.{sym, ◌∙◌, eqb-true}
use Rattle.t3_asm.proofs.ListedLines.{piece_more, pieces_whole, some_left}
use Rattle.t3_asm.proofs.lines.append_bytes.Goals as goal

pub loop-rest-preserved : goal.loop-rest-preserved
loop-rest-preserved c =
    let loop = c.loop-rest in
    piece_more loop.out.items c.append.new.out.items c.args.out.now.items c.args.bytes.now loop.rest.now c.split_at.result.0.now
    c.split_at.result.1.now c.min.result (some_left _ (sym c.is_empty.ensures ∙ c.loop-rest-test.true)) c.min.ensures
    c.split_at.ensures.front c.split_at.ensures.back c.in_ok-append.ensures loop.invariant

pub returns-clause-lines : goal.returns-clause-lines
returns-clause-lines c =
    pieces_whole c.loop-rest.out.items c.args.out.now.items c.args.bytes.now c.loop-rest.rest.now
    (eqb-true _ _ (sym c.is_empty.ensures ∙ c.loop-rest-test.false)) c.loop-rest.invariant
