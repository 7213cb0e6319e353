use Rattle.t3_snapshot.proofs.Savable.{savable_sound}
use Rattle.t3_snapshot.proofs.laws.savable_objects.Goals as goal

pub returns : goal.returns
returns c = λ objects next savable. savable_sound next objects savable
