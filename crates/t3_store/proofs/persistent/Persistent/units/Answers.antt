use Rattle.t3_store.proofs.Given.{given-persistent}
use Rattle.t3_store.proofs.PersistentCopy.{fitting-values, distinct-values}
use Rattle.t3_store.proofs.persistent.Persistent.units.Goals as goal

pub returns-clause-numbers : goal.returns-clause-numbers
returns-clause-numbers c number some =
    given-persistent c.self.inside.objects.objects c.args.self.now number c.self.view_is c.self.invariant.from_one
    (c.self.invariant.numbered number) some

pub returns-clause-fitting : goal.returns-clause-fitting
returns-clause-fitting c = fitting-values c.self.inside.objects.objects c.args.self.now c.self.view_is c.units.ensures.valid

pub returns-clause-distinct : goal.returns-clause-distinct
returns-clause-distinct c = distinct-values c.self.inside.objects.objects c.args.self.now c.self.view_is
