use Rattle.std.proofs.Common.{◌≡◌, drop}
use Rattle.t3_load.specs.ImageObjects.{lacks_super}
use Rattle.t3_load.specs.Rules.{first_by}
use Rattle.t3_load.proofs.supers.check_there.Given as goal

-- the first of those that are left is the first of all
abbrev pub invariant-loop-object : goal.invariant-loop-object
invariant-loop-object l =
    first_by (lacks_super l.objects) (drop l.object-index l.object-items) ≡ first_by (lacks_super l.objects) l.objects
