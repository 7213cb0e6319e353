use Rattle.std.proofs.Common.{◌≡◌, map, take, nat_eq}
use Rattle.std.specs.List.{IsDistinct}
use Rattle.t3_load.proofs.statics.are_distinct.Given as goal

-- the numbers so far are distinct
abbrev pub invariant-loop-prop : goal.invariant-loop-prop
invariant-loop-prop l =
    (l.seen.keys ≡ map (λ prop. prop.number) (take l.prop-index l.props)) × (IsDistinct nat_eq l.seen.keys)
