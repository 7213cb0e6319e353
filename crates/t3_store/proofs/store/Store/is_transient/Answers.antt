use Rattle.std.proofs.Common.{◌∙◌, is_some}
use Rattle.std.specs.FinMap.{get}
use Rattle.t3_store.proofs.store.Store.is_transient.Goals as goal

pub returns : goal.returns
returns c = c.has.ensures.value ∙ λ i. is_some (get (c.self.view_is i).store.transient c.args.number)
