use Rattle.std.proofs.Common.{refl}
use Rattle.t3_asm.specs.Source.{source}
use Rattle.t3_asm.proofs.Sourcing.{one_refusal, some_answer, said_valid}
use Rattle.t3_asm.proofs.laws.one_source.Goals as goal

pub returns-clause-some : goal.returns-clause-some
returns-clause-some c text = some_answer text (source text) refl

pub returns-clause-not_both : goal.returns-clause-not_both
returns-clause-not_both c text image line why says bad = cc

pub returns-clause-one_image : goal.returns-clause-one_image
returns-clause-one_image c text a b first second = cc

pub returns-clause-one_line : goal.returns-clause-one_line
returns-clause-one_line c text m n v w first second = one_refusal text m n v w first second

pub returns-clause-valid : goal.returns-clause-valid
returns-clause-valid c text image says = said_valid text image says
