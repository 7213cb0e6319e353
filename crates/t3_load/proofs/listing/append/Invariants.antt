use Rattle.std.proofs.Common.{◌≡◌, ◌+◌, ◌++◌, Some, map, take, drop, length, vec_len}
use Rattle.t3_load.specs.Names.{unknown_from}
use Rattle.t3_load.proofs.listing.append.Given as goal

-- what the items so far mean came behind what was there, and of those that are left the first that means nothing is that of all
abbrev pub invariant-loop-item : goal.invariant-loop-item
invariant-loop-item g l =
    (map Some l.entries.items ≡ map Some l.fn.entries.items ++ map (g.L.Listing.meaning l.listing) (take l.item-index l.items))
    × (vec_len l.entries ≡ vec_len l.fn.entries + l.item-index)
    × (unknown_from (g.L.Listing.meaning l.listing) (length l.fn.entries.items) l.items
    ≡ unknown_from (g.L.Listing.meaning l.listing) (length l.entries.items) (drop l.item-index l.items))
