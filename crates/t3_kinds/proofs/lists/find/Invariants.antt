use Rattle.std.proofs.Common.{◌≡◌, ◌+◌, ◌-◌, drop, length}
use Rattle.t3_kinds.specs.ListMethods.{found_from}
use Rattle.t3_kinds.specs.Inner.Selves.{elements_by}
use Rattle.t3_kinds.proofs.lists.find.Given as goal

-- what is found among those that are left is what is found
abbrev pub invariant-loop-element : goal.invariant-loop-element
invariant-loop-element l =
    found_from l.pools.constants l.store.store l.turns l.value (l.index + 1) (drop l.index (elements_by l.pools.constants l.elements))
    ≡ found_from l.pools.constants l.store.store l.initial.turns l.value 1 (elements_by l.pools.constants l.elements)

abbrev pub decreases-loop-element : goal.decreases-loop-element
decreases-loop-element l = length (elements_by l.pools.constants l.elements) - l.index
