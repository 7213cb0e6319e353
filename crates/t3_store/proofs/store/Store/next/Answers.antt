use Rattle.std.proofs.Common.{ap, subst}
use Rattle.t3_store.specs.Whole.{HasGivenNumbers}
use Rattle.t3_store.proofs.Given.{given-numbers}
use Rattle.t3_store.proofs.store.Store.next.Goals as goal

pub returns-clause-numbers : goal.returns-clause-numbers
returns-clause-numbers c =
    subst HasGivenNumbers (ap (λ s. s.store) c.self.view_is)
    (given-numbers c.self.inside.persistent.objects c.self.inside.transient.objects c.self.inside.next c.self.inside.next_transient
    c.self.inside.limits c.self.inside.journal.segments c.self.invariant.is.numbered)
