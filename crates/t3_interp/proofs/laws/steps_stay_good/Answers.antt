use Rattle.t3_interp.proofs.GoodSteps.{good-initial, good-by}
use Rattle.t3_interp.proofs.laws.steps_stay_good.Goals as goal

pub returns-clause-begins : goal.returns-clause-begins
returns-clause-begins g c program good = good-initial g.G.HolderProperty.good program good

pub returns-clause-steps : goal.returns-clause-steps
returns-clause-steps g c program input state after good keeps steps has =
    good-by g.G.HolderProperty.good program good input state after steps keeps has
