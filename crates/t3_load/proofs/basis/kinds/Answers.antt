use Rattle.t3_load.proofs.NameRules.{kinds_kept}
use Rattle.t3_load.proofs.basis.kinds.Goals as goal

pub returns-in-Ok-clause-decides : goal.returns-in-Ok-clause-decides
returns-in-Ok-clause-decides c = kinds_kept c.args.image.now.blocks c.in-Ok.kinds c.in-Ok.ensures
