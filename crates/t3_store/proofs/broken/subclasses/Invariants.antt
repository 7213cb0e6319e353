use Rattle.std.proofs.Common.{◌≡◌, take}
use Rattle.std.specs.Prelude.{filter}
use Rattle.t3_store.specs.Broken.{has_superclass}
use Rattle.t3_store.proofs.broken.subclasses.Given as goal

abbrev pub invariant-loop-number : goal.invariant-loop-number
invariant-loop-number g l =
    l.found.items ≡ filter (has_superclass (g.S.Supers.supers_at l.objects)) (take l.number-index l.numbers)
