use Rattle.std.proofs.Common.{◌≡◌, ◌-◌, ◌++◌, map}
use Rattle.std.specs.List.{range_with_len}
use Rattle.t3_drill.specs.Drill.{objects, static_object}
use Rattle.t3_drill.proofs.front.objects.Given as goal

abbrev pub invariant-loop-number : goal.invariant-loop-number
invariant-loop-number l =
    l.objects.items ++ map static_object (range_with_len l.number (65 - l.number)) ≡ map static_object objects
