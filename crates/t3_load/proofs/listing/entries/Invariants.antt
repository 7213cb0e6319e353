use Rattle.std.proofs.Common.{◌≡◌, Some, map, take, drop, length}
use Rattle.std.specs.List.{flat_map}
use Rattle.t3_load.specs.Names.{unknown_from}
use Rattle.t3_load.proofs.listing.entries.Given as goal

-- what the items of the blocks so far mean, and of those that are left the first that means nothing is that of all
abbrev pub invariant-loop-placed : goal.invariant-loop-placed
invariant-loop-placed g l =
    (map Some l.entries.items
    ≡ map (g.L.Listing.meaning l.listing)
    (flat_map (λ placed. g.L.Listing.items l.listing placed.block) (take l.placed-index l.blocks)))
    × (unknown_from (g.L.Listing.meaning l.listing) 0 (flat_map (λ placed. g.L.Listing.items l.listing placed.block) l.blocks)
    ≡ unknown_from (g.L.Listing.meaning l.listing) (length l.entries.items)
    (flat_map (λ placed. g.L.Listing.items l.listing placed.block) (drop l.placed-index l.blocks)))
