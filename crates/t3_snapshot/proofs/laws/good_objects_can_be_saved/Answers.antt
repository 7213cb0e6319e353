use Rattle.t3_snapshot.proofs.GoodObjects.{good_savable}
use Rattle.t3_snapshot.proofs.SoundGood.{sound_good}
use Rattle.t3_snapshot.proofs.laws.good_objects_can_be_saved.Goals as goal

pub returns-clause-saved : goal.returns-clause-saved
returns-clause-saved c = good_savable

pub returns-clause-restored : goal.returns-clause-restored
returns-clause-restored c = sound_good
