use Rattle.std.proofs.Common.{◌≡◌, map, drop}
use Rattle.t3_load.specs.Rules.{first_bad}
use Rattle.t3_load.specs.Inner.Objects.{static_of}
use Rattle.t3_load.proofs.objects.bad_number.Given as goal

-- the first of those that are left is the first of all
abbrev pub invariant-loop-placed : goal.invariant-loop-placed
invariant-loop-placed l = first_bad (map static_of (drop l.placed-index l.statics)) ≡ first_bad (map static_of l.statics)
