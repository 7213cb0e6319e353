use Rattle.t3_holder.proofs.Numbers.{is_text, only_text}
use Rattle.t3_holder.proofs.number.number_text.Goals as goal

pub returns-clause-spelled : goal.returns-clause-spelled
returns-clause-spelled c = is_text

pub returns-clause-only : goal.returns-clause-only
returns-clause-only c = only_text
