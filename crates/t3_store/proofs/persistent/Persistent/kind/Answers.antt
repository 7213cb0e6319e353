use Rattle.t3_store.proofs.Given.{given-persistent}
use Rattle.t3_store.proofs.persistent.Persistent.kind.Goals as goal

pub returns-clause-number : goal.returns-clause-number
returns-clause-number c some =
    given-persistent c.self.inside.objects.objects c.args.self.now c.args.number c.self.view_is c.self.invariant.from_one
    (c.self.invariant.numbered c.args.number) some
