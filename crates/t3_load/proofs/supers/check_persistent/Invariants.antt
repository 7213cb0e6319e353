use Rattle.std.proofs.Common.{◌≡◌, drop}
use Rattle.t3_load.specs.ImageObjects.{has_transient_super}
use Rattle.t3_load.specs.Rules.{first_by}
use Rattle.t3_load.proofs.supers.check_persistent.Given as goal

-- the first of those that are left is the first of all
abbrev pub invariant-loop-object : goal.invariant-loop-object
invariant-loop-object l =
    first_by (has_transient_super l.objects) (drop l.object-index l.object-items) ≡ first_by (has_transient_super l.objects) l.objects
