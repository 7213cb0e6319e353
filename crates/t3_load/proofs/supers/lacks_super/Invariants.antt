use Rattle.std.proofs.Common.{◌≡◌, drop}
use Rattle.std.specs.Prelude.{is_none}
use Rattle.std.specs.List.{list_any}
use Rattle.t3_load.specs.ImageObjects.{supers_by, superclasses}
use Rattle.t3_load.proofs.supers.lacks_super.Given as goal

-- one of those that are left is as one of all
abbrev pub invariant-loop-number : goal.invariant-loop-number
invariant-loop-number l =
    list_any (λ super. is_none (supers_by l.objects super)) (drop l.number-index l.number-items)
    ≡ list_any (λ super. is_none (supers_by l.objects super)) (superclasses l.object)
