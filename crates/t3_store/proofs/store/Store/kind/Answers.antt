use Rattle.std.proofs.Common.{sym}
use Rattle.t3_store.proofs.WholeStarted.{acyclic-live}
use Rattle.t3_store.proofs.store.Store.kind.Goals as goal

pub returns-clause-acyclic : goal.returns-clause-acyclic
returns-clause-acyclic c =
    acyclic-live c.self.inside.persistent.objects c.self.inside.transient.objects c.args.self.now.store c.self.inside.next
    c.self.inside.next_transient c.self.inside.journal.segments (λ i. (sym c.self.view_is i).store.persistent)
    (λ i. (sym c.self.view_is i).store.transient) c.self.invariant.is.whole c.args.number
