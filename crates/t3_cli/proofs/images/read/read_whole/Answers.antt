use Rattle.t3_words.specs.Input.{ImageFile}
use Rattle.t3_image_read.specs.ImageText.{ImageValue}
use Rattle.t3_cli.specs.Inner.NoImage.{no_image_of}
use Rattle.t3_cli.specs.Inner.Reading.{IsImage}
use Rattle.t3_cli.proofs.FileRead.{reads_err, tells_image, tells_refusal}
use Rattle.t3_cli.proofs.Digested.{holds_image}
use Rattle.t3_cli.proofs.images.read.read_whole.Goals as goal

pub returns-in_err-finish-clause-read : goal.returns-in_err-finish-clause-read
returns-in_err-finish-clause-read g c =
    reads_err IsImage (ImageFile c.args.name.now) (g.D.Depot.files c.args.depot.now) c.from_residual-in_err-finish.result
    (no_image_of c.in_err-finish.field-0.0) c.from_residual-in_err-finish.ensures
    (tells_refusal (λ (image : ImageValue). image) (g.D.Depot.files c.args.depot.now) c.args.name.now c.read_pieces.new.reader
    c.in_err-finish.field-0.0 c.in_ok-read_pieces.ensures.read c.in_err-finish.ensures.finishes)

pub returns-clause-read : goal.returns-clause-read
returns-clause-read g c =
    tells_image (λ (image : ImageValue). image)
    (g.D.Depot.files c.args.depot.now) c.args.name.now c.read_pieces.new.reader c.in_ok-finish.field-0
    c.in_ok-read_pieces.ensures.read c.in_ok-finish.ensures.finishes

pub returns-clause-taken : goal.returns-clause-taken
returns-clause-taken g c =
    holds_image g.P.PieceSink.has_taken c.read_pieces.new.reader c.read_pieces.new.sink c.in_ok-finish.field-0
    c.in_ok-read_pieces.ensures.taken
    c.in_ok-finish.ensures.finishes
