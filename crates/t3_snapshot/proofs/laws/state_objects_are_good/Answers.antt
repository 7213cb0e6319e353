use Rattle.t3_snapshot.proofs.SoundGood.{sound_with_parts}
use Rattle.t3_snapshot.proofs.laws.state_objects_are_good.Goals as goal

pub returns : goal.returns
returns g c = sound_with_parts g.G.HolderProperty.good
