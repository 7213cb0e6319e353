use Rattle.std.proofs.Common.{◌∙◌, ap, sym, subst}
use Rattle.t3_store.specs.Inner.Shapes.{Stored, values}
use Rattle.t3_store.specs.Inner.Store.{IsPersistent}
use Rattle.t3_store.proofs.MapValues.{none-persistent, values-empty}
use Rattle.t3_store.proofs.persistent.Persistent.new.Goals as goal

pub invariant_of-result : goal.invariant_of-result
invariant_of-result c = subst IsPersistent (sym c.new.ensures) none-persistent

pub returns : goal.returns
returns c = ap (λ (s : Stored). values s.objects) c.new.ensures ∙ values-empty
