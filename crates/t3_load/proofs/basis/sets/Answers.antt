use Rattle.t3_load.proofs.NameRules.{sets_kept}
use Rattle.t3_load.proofs.basis.sets.Goals as goal

pub returns-in-Ok-clause-decides : goal.returns-in-Ok-clause-decides
returns-in-Ok-clause-decides c = sets_kept c.args.image.now.blocks c.in-Ok.sets c.in-Ok.ensures
