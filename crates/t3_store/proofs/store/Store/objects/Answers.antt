use Rattle.std.proofs.Common.{◌∙◌, ◌+◌, sym, subst}
use Rattle.t3_store.specs.Store.{CountedStore, AreLimits, objects_in}
use Rattle.t3_store.proofs.WholeStarted.{acyclic-live}
use Rattle.t3_store.proofs.store.Store.objects.Goals as goal

pub returns-clause-objects : goal.returns-clause-objects
returns-clause-objects c = (λ i. c.len.ensures i + c.len-2.ensures i) ∙ λ i. objects_in (c.self.view_is i).store

pub returns-clause-limits : goal.returns-clause-limits
returns-clause-limits c = subst (λ (v : CountedStore). AreLimits v.store.limits) c.self.view_is c.self.invariant.is.bounded

pub returns-clause-acyclic : goal.returns-clause-acyclic
returns-clause-acyclic c number =
    acyclic-live c.self.inside.persistent.objects c.self.inside.transient.objects c.args.self.now.store c.self.inside.next
    c.self.inside.next_transient c.self.inside.journal.segments (λ i. (sym c.self.view_is i).store.persistent)
    (λ i. (sym c.self.view_is i).store.transient) c.self.invariant.is.whole number
