use Rattle.std.proofs.Common.{◌≡◌, true, false, None, subst}
use Rattle.std.specs.FinMap.{get}
use Rattle.t3_load.specs.Inner.Halves.{half_of}
use Rattle.t3_load.proofs.Halving.{halves_more}
use Rattle.t3_load.proofs.halves.Halves.add.Goals as goal

pub returns-in_ok-add-clause-added : goal.returns-in_ok-add-clause-added
returns-in_ok-add-clause-added c = λ objects halves.
    halves_more true objects c.args.self.now.first c.args.self.now.passing c.add.new.self c.args.object halves
    (subst (λ t. get (half_of c.args.self.now.first c.args.self.now.passing t) c.args.object.number ≡ None) c.if-object.true c.requires.new)
    c.if-object.true c.in_ok-add.ensures.ok

pub returns-in_ok-add-2-clause-added : goal.returns-in_ok-add-2-clause-added
returns-in_ok-add-2-clause-added c = λ objects halves.
    halves_more false objects c.args.self.now.first c.args.self.now.passing c.add-else-object.new.self c.args.object halves
    (subst (λ t. get (half_of c.args.self.now.first c.args.self.now.passing t) c.args.object.number ≡ None) c.if-object.false c.requires.new)
    c.if-object.false c.in_ok-add-2.ensures.ok
