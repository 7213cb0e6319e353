use Rattle.std.proofs.Common.{ap, ◌∙◌, arith}
use Rattle.t3_io.specs.declared.depot.Got.TheVariants as got
use Rattle.t3_files.proofs.Pieces.{takes_more, file_ended, file_limit, piece_is, count_within}
use Rattle.t3_files.proofs.reading.read_into.Goals as goal

pub loop-at-preserved : goal.loop-at-preserved
loop-at-preserved g c =
    let count = c.in-Count.count in
    let piece = piece_is _ _ c.args.name.now c.read_piece.new.buf c.loop-at.at c.min-want.result _ (got.Count count) c.loop-at.invariant.files c.in-Count.is c.in_ok-read_piece.ensures.piece in
    let fits = count_within c.min-want.result count _ c.in-Count.is c.in_ok-read_piece.ensures.count in
    record {
      near = omega (arith, c.min-want.ensures, c.loop-at.invariant.near);
      taken =
          takes_more (g.D.Depot.files c.args.depot.now) c.args.name.now c.loop-at.text.items c.extend_from_slice.new.self.items c.read_piece.new.buf c.loop-at.at c.min-want.result count c.loop-at.invariant.taken piece c.in_ok-extend_from_slice-in-Count.ensures.items;
      files = c.read_piece.ensures.files ∙ c.loop-at.invariant.files;
      faults = c.in_ok-read_piece.ensures.cause ∙ c.loop-at.invariant.faults;
    }

pub returns-in-Count-eq0-clause-read : goal.returns-in-Count-eq0-clause-read
returns-in-Count-eq0-clause-read g c =
    let none = c.in-Count-eq0.is ∙ ap (λ n. got.Count n) c.in-Count-eq0.field-0-test in
    let piece = piece_is _ _ c.args.name.now c.read_piece.new.buf c.loop-at.at c.min-want.result _ (got.Count 0) c.loop-at.invariant.files none c.in_ok-read_piece.ensures.piece in
    file_ended (g.D.Depot.files c.args.depot.now) c.args.name.now c.read_piece.new.buf c.loop-at.text c.loop-at.at c.min-want.result c.loop-at.invariant.taken piece c.loop-at.invariant.near

pub returns-clause-read : goal.returns-clause-read
returns-clause-read g c =
    let near = c.loop-at.invariant.near in
    file_limit (g.D.Depot.files c.args.depot.now) c.args.name.now c.loop-at.text c.loop-at.at c.loop-at.invariant.taken (omega (arith, c.loop-at-test.false, near))
