use Rattle.t3_image_read.proofs.Joined.{joined}
use Rattle.t3_image_read.proofs.laws.pieces_joined.Goals as goal

pub returns : goal.returns
returns c = joined
