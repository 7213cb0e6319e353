use Rattle.std.proofs.Common.{arith}
use Rattle.t3_load.specs.ImageObjects.{has_transient_super}
use Rattle.t3_load.proofs.SuperRules.{none_by, persistent_kept}
use Rattle.t3_load.proofs.supers.check_persistent.Goals as goal

pub returns-clause-persistent : goal.returns-clause-persistent
returns-clause-persistent c =
    none_by (has_transient_super c.args.objects.now) c.as_slice-object-items.result.now c.args.objects.now c.loop-object.object-index
    (omega (arith, c.loop-object-test.false)) c.loop-object.invariant

pub returns-clause-decides : goal.returns-clause-decides
returns-clause-decides c = λ blocks are.
    persistent_kept blocks c.args.objects.now are
    (none_by (has_transient_super c.args.objects.now) c.as_slice-object-items.result.now c.args.objects.now c.loop-object.object-index
    (omega (arith, c.loop-object-test.false)) c.loop-object.invariant)
