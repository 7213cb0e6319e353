use Rattle.t3_image_read.specs.ImageText.{signature}
use Rattle.t3_image_read.proofs.HeadFaults.{signature_test}
use Rattle.t3_image_read.proofs.header.differs_from_signature.Goals as goal

pub returns : goal.returns
unfolding signature
returns c = signature_test c.args.bytes.now c.min-shown.result c.ne.result c.min-shown.ensures c.ne.ensures
