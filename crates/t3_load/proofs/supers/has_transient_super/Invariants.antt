use Rattle.std.proofs.Common.{◌≡◌, drop}
use Rattle.std.specs.List.{list_any}
use Rattle.t3_load.specs.ImageObjects.{is_transient_at, superclasses}
use Rattle.t3_load.proofs.supers.has_transient_super.Given as goal

-- one of those that are left is as one of all
abbrev pub invariant-loop-number : goal.invariant-loop-number
invariant-loop-number l =
    list_any (is_transient_at l.objects) (drop l.number-index l.number-items) ≡ list_any (is_transient_at l.objects) (superclasses l.object)
