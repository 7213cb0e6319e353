use Rattle.t3_store.proofs.PersistentCopy.{fitting-values, distinct-values, whole-persistent}
use Rattle.t3_store.proofs.Replaced.{persistent-below}
use Rattle.t3_store.proofs.store.Store.persistent_objects.Goals as goal

pub returns-clause-whole : goal.returns-clause-whole
returns-clause-whole c =
    whole-persistent c.self.inside.persistent.objects c.self.inside.transient.objects c.args.self.now.store.persistent c.self.inside.next
    c.self.inside.next_transient c.self.inside.journal.segments (λ i. (c.self.view_is i).store.persistent) c.self.invariant.is.whole

pub returns-clause-fitting : goal.returns-clause-fitting
returns-clause-fitting c =
    fitting-values c.self.inside.persistent.objects c.args.self.now.store.persistent (λ i. (c.self.view_is i).store.persistent) c.units.ensures.valid

pub returns-clause-distinct : goal.returns-clause-distinct
returns-clause-distinct c =
    distinct-values c.self.inside.persistent.objects c.args.self.now.store.persistent (λ i. (c.self.view_is i).store.persistent)

pub new-requires : goal.new-requires
new-requires c =
    persistent-below c.self.inside.persistent c.self.inside.next c.self.invariant.is.numbered.persistent_below
    c.self.invariant.is.numbered.next_fits
