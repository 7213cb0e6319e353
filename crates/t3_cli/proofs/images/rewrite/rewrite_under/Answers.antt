use Rattle.t3_words.specs.Input.{ImageFile}
use Rattle.t3_cli.specs.Inner.NoImage.{no_image_of}
use Rattle.t3_cli.specs.Inner.Reading.{IsRewritten}
use Rattle.t3_cli.proofs.FileRead.{parts_are, reads_err, refuses_parts, writes_text}
use Rattle.t3_cli.proofs.images.rewrite.rewrite_under.Goals as goal

pub returns-in_err-parts-clause-read : goal.returns-in_err-parts-clause-read
returns-in_err-parts-clause-read g c =
    reads_err (IsRewritten c.args.mask) (ImageFile c.args.name.now) (g.D.Depot.files c.args.depot.now) c.from_residual-in_err-parts.result
    (no_image_of c.in_err-parts.field-0.0) c.from_residual-in_err-parts.ensures
    (refuses_parts g.M.Masking.mask (g.D.Depot.files c.args.depot.now) c.args.name.now c.read_pieces.new.reader
    c.in_err-parts.field-0.0 c.in_ok-read_pieces.ensures.read c.in_err-parts.ensures)

pub rewritten_text-requires : goal.rewritten_text-requires
rewritten_text-requires g c =
    let are = parts_are g.M.Masking.mask c.read_pieces.new.reader c.in_ok-parts.parts c.in_ok-parts.ensures in
    (are.0, are.2)

pub returns-clause-read : goal.returns-clause-read
returns-clause-read g c =
    writes_text c.args.mask g.M.Masking.mask (g.D.Depot.files c.args.depot.now) c.args.name.now c.read_pieces.new.reader c.in_ok-parts.parts
    c.in_ok-rewritten_text.field-0 c.requires.mask c.in_ok-read_pieces.ensures.read c.in_ok-parts.ensures c.in_ok-rewritten_text.ensures
