use Rattle.std.proofs.Common.{◌≤◌, sym, subst}
use Rattle.t3_store.specs.Value.{units_in}
use Rattle.t3_store.specs.Store.{CountedStore}
use Rattle.t3_store.proofs.PersistentCopy.{fitting-live, distinct-live, whole-persistent}
use Rattle.t3_store.proofs.store.Store.units.Goals as goal

pub returns-clause-persistent : goal.returns-clause-persistent
returns-clause-persistent c =
    subst (λ (v : CountedStore). units_in v.store.persistent ≤ v.store.limits.units) c.self.view_is c.self.invariant.is.counted.persistent_units

pub returns-clause-transient : goal.returns-clause-transient
returns-clause-transient c =
    subst (λ (v : CountedStore). units_in v.store.transient ≤ v.store.limits.units) c.self.view_is c.self.invariant.is.counted.transient_units

pub returns-clause-fitting : goal.returns-clause-fitting
returns-clause-fitting c =
    fitting-live c.self.inside.persistent.objects c.self.inside.transient.objects c.args.self.now.store
    (λ i. (sym c.self.view_is i).store.persistent) (λ i. (sym c.self.view_is i).store.transient) c.units.ensures.valid c.units-2.ensures.valid

pub returns-clause-distinct : goal.returns-clause-distinct
returns-clause-distinct c =
    distinct-live c.self.inside.persistent.objects c.self.inside.transient.objects c.args.self.now.store
    (λ i. (sym c.self.view_is i).store.persistent) (λ i. (sym c.self.view_is i).store.transient)

pub returns-clause-whole : goal.returns-clause-whole
returns-clause-whole c =
    whole-persistent c.self.inside.persistent.objects c.self.inside.transient.objects c.args.self.now.store.persistent c.self.inside.next
    c.self.inside.next_transient c.self.inside.journal.segments (λ i. (c.self.view_is i).store.persistent) c.self.invariant.is.whole
