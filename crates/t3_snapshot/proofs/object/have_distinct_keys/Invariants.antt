use Rattle.std.proofs.Common.{◌≡◌, map, take, true}
use Rattle.t3_snapshot.specs.Layout.{keys_of}
use Rattle.t3_snapshot.specs.Inner.Reading.{are_distinct}
use Rattle.t3_snapshot.proofs.object.have_distinct_keys.Given as goal

-- the keys so far are distinct
abbrev pub invariant-loop-pair : goal.invariant-loop-pair
invariant-loop-pair l =
    (map (λ key. key.now) l.seen.keys ≡ keys_of (take l.pair-index l.pairs)) × (are_distinct (keys_of (take l.pair-index l.pairs)) ≡ true)
