use Rattle.std.proofs.Common.{◌≤◌, length, ap, ◌∙◌, arith, rules}
use Rattle.t3_io.specs.declared.depot.Got.TheVariants as got
use Rattle.t3_files.proofs.Pieces.{piece_is, count_within}
use Rattle.t3_cli.proofs.FileRead.{begins_reading, reads_more, reads_ended, reads_limit, reads_absent}
use Rattle.t3_cli.proofs.Digested.{holds_none}
use Rattle.t3_cli.proofs.images.read.read_pieces.Goals as goal

pub loop-at-init : goal.loop-at-init
loop-at-init g c = record {
  near = omega arith;
  reading = begins_reading (g.D.Depot.files c.args.depot.now) c.args.name.now c.args.reader.now c.requires.start;
  taken = holds_none g.P.PieceSink.has_taken c.args.reader.now c.args.sink.now c.requires.start c.requires.fresh;
  files = search rules;
  faults = search rules;
}

pub returns-in-Absent-clause-read : goal.returns-in-Absent-clause-read
returns-in-Absent-clause-read g c =
    let piece = piece_is _ _ c.args.name.now c.read_piece.new.buf c.loop-at.at c.min-want.result _ got.Absent c.loop-at.invariant.files c.in-Absent.is c.in_ok-read_piece.ensures.piece in
    reads_absent (g.D.Depot.files c.args.depot.now) c.args.name.now c.read_piece.new.buf c.loop-at.at c.min-want.result piece

pub loop-at-preserved : goal.loop-at-preserved
loop-at-preserved g c =
    let count = c.in-Count.count in
    let piece = piece_is _ _ c.args.name.now c.read_piece.new.buf c.loop-at.at c.min-want.result _ (got.Count count) c.loop-at.invariant.files c.in-Count.is c.in_ok-read_piece.ensures.piece in
    let fits = count_within c.min-want.result count _ c.in-Count.is c.in_ok-read_piece.ensures.count in
    let near = c.loop-at.invariant.near in
    let there : count ≤ length c.read_piece.new.buf = omega (arith, c.min-want.ensures, c.read_piece.auto.buf) in
    record {
      near = omega (arith, c.min-want.ensures);
      reading =
          reads_more (g.D.Depot.files c.args.depot.now) c.args.name.now c.read_piece.new.buf c.loop-at.reader c.feed.new.reader c.loop-at.at c.min-want.result count c.loop-at.invariant.reading piece there (omega (arith, c.min-want.ensures)) c.feed.ensures.fed;
      taken = c.feed.ensures.taken c.loop-at.invariant.taken;
      files = c.read_piece.ensures.files ∙ c.loop-at.invariant.files;
      faults = c.in_ok-read_piece.ensures.cause ∙ c.loop-at.invariant.faults;
    }

pub returns-in-Count-eq0-clause-read : goal.returns-in-Count-eq0-clause-read
returns-in-Count-eq0-clause-read g c =
    let none = c.in-Count-eq0.is ∙ ap (λ n. got.Count n) c.in-Count-eq0.field-0-test in
    let piece = piece_is _ _ c.args.name.now c.read_piece.new.buf c.loop-at.at c.min-want.result _ (got.Count 0) c.loop-at.invariant.files none c.in_ok-read_piece.ensures.piece in
    reads_ended (g.D.Depot.files c.args.depot.now) c.args.name.now c.read_piece.new.buf c.loop-at.reader c.loop-at.at c.min-want.result c.loop-at.invariant.reading piece c.loop-at.invariant.near

pub returns-clause-read : goal.returns-clause-read
returns-clause-read g c =
    let near = c.loop-at.invariant.near in
    reads_limit (g.D.Depot.files c.args.depot.now) c.args.name.now c.loop-at.reader c.loop-at.at c.loop-at.invariant.reading (omega (arith, c.loop-at-test.false))
