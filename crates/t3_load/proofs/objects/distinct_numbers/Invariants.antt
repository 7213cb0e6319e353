use Rattle.std.proofs.Common.{◌≡◌, map, take, nat_eq}
use Rattle.std.specs.List.{IsDistinct}
use Rattle.t3_load.proofs.objects.distinct_numbers.Given as goal

-- the numbers so far are distinct
abbrev pub invariant-loop-placed : goal.invariant-loop-placed
invariant-loop-placed l =
    (l.numbers.keys ≡ map (λ static. static.number) (take l.placed-index l.statics)) × (IsDistinct nat_eq l.numbers.keys)
