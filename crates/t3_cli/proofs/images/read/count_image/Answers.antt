use Rattle.t3_words.specs.Input.{ImageFile}
use Rattle.t3_image_read.specs.Reader.{totals_of}
use Rattle.t3_cli.specs.Inner.NoImage.{no_image_of}
use Rattle.t3_cli.specs.Inner.Reading.{HasTotals}
use Rattle.t3_cli.proofs.FileRead.{reads_err, tells_image, tells_refusal}
use Rattle.t3_cli.proofs.images.read.count_image.Goals as goal

pub returns-in_err-totals-clause-read : goal.returns-in_err-totals-clause-read
returns-in_err-totals-clause-read g c =
    reads_err HasTotals (ImageFile c.args.name.now) (g.D.Depot.files c.args.depot.now) c.from_residual-in_err-totals.result
    (no_image_of c.in_err-totals.field-0.0) c.from_residual-in_err-totals.ensures
    (tells_refusal totals_of (g.D.Depot.files c.args.depot.now) c.args.name.now c.read_pieces.new.reader
    c.in_err-totals.field-0.0 c.in_ok-read_pieces.ensures.read c.in_err-totals.ensures)

pub returns-clause-read : goal.returns-clause-read
returns-clause-read g c =
    tells_image totals_of (g.D.Depot.files c.args.depot.now) c.args.name.now c.read_pieces.new.reader c.in_ok-totals.field-0
    c.in_ok-read_pieces.ensures.read c.in_ok-totals.ensures
