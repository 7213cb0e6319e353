use Rattle.t3_holder.proofs.Holders.{some_raw, one_raw, one_holder, none_meant, is_meant}
use Rattle.t3_holder.proofs.holder.holder_text.Goals as goal

pub returns-clause-some : goal.returns-clause-some
returns-clause-some c = some_raw

pub returns-clause-one_raw : goal.returns-clause-one_raw
returns-clause-one_raw c = one_raw

pub returns-clause-one_holder : goal.returns-clause-one_holder
returns-clause-one_holder c = one_holder

pub returns-clause-none : goal.returns-clause-none
returns-clause-none c = none_meant

pub returns-clause-meant : goal.returns-clause-meant
returns-clause-meant c = is_meant
