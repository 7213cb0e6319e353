use Rattle.t3_words.specs.Input.{ImageFile}
use Rattle.t3_image_read.specs.ImageText.{text}
use Rattle.t3_cli.proofs.Digested.{digests_image}
use Rattle.t3_cli.proofs.images.read.read_digested.Goals as goal

pub returns-clause-read : goal.returns-clause-read
returns-clause-read g c =
    digests_image (ImageFile c.args.name.now)
    (g.D.Depot.files c.args.depot.now) c.in_ok-image.image c.finalize.result c.in_ok-image.ensures.read
    (c.finalize.ensures (text c.in_ok-image.image) c.in_ok-image.ensures.taken)
