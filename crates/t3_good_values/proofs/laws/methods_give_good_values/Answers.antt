use Rattle.t3_good_values.proofs.Methods.{listed_deed-good}
use Rattle.t3_good_values.proofs.laws.methods_give_good_values.Goals as goal

pub returns : goal.returns
returns g c = listed_deed-good g.G.HolderProperty.good
