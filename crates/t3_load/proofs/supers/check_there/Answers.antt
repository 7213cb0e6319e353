use Rattle.std.proofs.Common.{arith}
use Rattle.t3_load.specs.ImageObjects.{lacks_super}
use Rattle.t3_load.proofs.SuperRules.{none_by, there_kept}
use Rattle.t3_load.proofs.supers.check_there.Goals as goal

pub returns-clause-there : goal.returns-clause-there
returns-clause-there c =
    none_by (lacks_super c.args.objects.now) c.as_slice-object-items.result.now c.args.objects.now c.loop-object.object-index
    (omega (arith, c.loop-object-test.false)) c.loop-object.invariant

pub returns-clause-decides : goal.returns-clause-decides
returns-clause-decides c = λ blocks are.
    there_kept blocks c.args.objects.now are
    (none_by (lacks_super c.args.objects.now) c.as_slice-object-items.result.now c.args.objects.now c.loop-object.object-index
    (omega (arith, c.loop-object-test.false)) c.loop-object.invariant)
