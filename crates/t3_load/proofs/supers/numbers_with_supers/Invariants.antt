use Rattle.std.proofs.Common.{◌≡◌, filter, take}
use Rattle.t3_load.specs.ImageObjects.{object_numbers}
use Rattle.t3_load.specs.Inner.Supers.{has_supers}
use Rattle.t3_load.proofs.supers.numbers_with_supers.Given as goal

-- those so far
abbrev pub invariant-loop-object : goal.invariant-loop-object
invariant-loop-object l = l.numbers.items ≡ object_numbers (filter has_supers (take l.object-index l.objects))
