use Rattle.t3_pools.proofs.Texts.{text_in-stands, stands-text_in}
use Rattle.t3_pools.proofs.laws.constant_text.Goals as goal

pub returns-clause-read : goal.returns-clause-read
returns-clause-read c = text_in-stands

pub returns-clause-stands : goal.returns-clause-stands
returns-clause-stands c = stands-text_in
