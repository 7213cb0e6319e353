use Rattle.std.proofs.Common.{sym, ◌∙◌}
use Rattle.t3_load.proofs.Named.{before_found, before_none}
use Rattle.t3_load.proofs.names.base.Goals as goal

pub returns-in-Some : goal.returns-in-Some
returns-in-Some c = before_found _ c.args.name.now c.in-Some.end (sym c.slash.ensures ∙ c.in-Some.is)

pub returns-in-None : goal.returns-in-None
returns-in-None c = before_none _ c.args.name.now (sym c.slash.ensures ∙ c.in-None.is)
