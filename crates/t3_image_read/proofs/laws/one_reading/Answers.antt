use Rattle.t3_image_read.proofs.Uniqueness as laws
use Rattle.t3_image_read.proofs.Existence.{image_or_refused}
use Rattle.t3_image_read.proofs.laws.one_reading.Goals as goal

pub returns-clause-some : goal.returns-clause-some
returns-clause-some c = image_or_refused

pub returns-clause-not_both : goal.returns-clause-not_both
returns-clause-not_both c = laws.not_both

pub returns-clause-one_image : goal.returns-clause-one_image
returns-clause-one_image c = laws.one_image

pub returns-clause-one_refusal : goal.returns-clause-one_refusal
returns-clause-one_refusal c = laws.one_refusal

pub returns-clause-no_prefix : goal.returns-clause-no_prefix
returns-clause-no_prefix c = laws.no_prefix
