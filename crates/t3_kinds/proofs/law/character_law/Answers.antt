use Rattle.t3_kinds.proofs.Characters.{has_characters}
use Rattle.t3_kinds.proofs.law.character_law.Goals as goal

pub returns : goal.returns
returns c = has_characters
