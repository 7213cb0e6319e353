use Rattle.std.proofs.Common.{◌≡◌, ◌<◌, ◌^◌, drop, map, fold, max}
use Rattle.t3_load.proofs.halves.next_number.Given as goal

-- the greatest of those so far and those that are left is the greatest of all
abbrev pub invariant-loop-object : goal.invariant-loop-object
invariant-loop-object l =
    (fold max l.greatest (map (λ object. object.number) (drop l.object-index l.objects)) ≡ fold max 0
    (map (λ object. object.number) l.objects))
    × (l.greatest < 2 ^ 31)
