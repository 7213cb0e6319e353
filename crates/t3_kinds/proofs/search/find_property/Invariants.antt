use Rattle.std.proofs.Common.{◌≡◌}
use Rattle.t3_tadsobj.specs.Order.{IsAcyclicFrom}
use Rattle.t3_store.specs.Whole.{supers_of_live}
use Rattle.t3_kinds.specs.Search.{property_of}
use Rattle.t3_kinds.proofs.search.find_property.Given as goal

-- what the search finds from here is what it finds from the object
abbrev pub invariant-loop : goal.invariant-loop
invariant-loop l =
    (property_of l.store.store l.at l.property ≡ property_of l.store.store l.number l.property)
    × IsAcyclicFrom (supers_of_live l.store.store) l.at
