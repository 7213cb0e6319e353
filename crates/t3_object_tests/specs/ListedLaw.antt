-- That such objects have numbers of their lists, for the trait's law.
use Rattle.std.proofs.Common.{ℕ, ◌<◌, ◌≤◌, ◌⊎◌, inl, inr, List, length}
use Rattle.std.specs.Prelude.{IsSome, Contains}
use Rattle.std.specs.Global.{Vec}
use Rattle.std.proofs.lemmas.Option.{slice_get_past}
use Rattle.std.proofs.lemmas.Bool.{cases_lt, false≢true}
use Rattle.t3_object_tests.specs.Listed.{listed_at}
use Rattle.t3_object_tests.specs.Rising.{below}
use Rattle.t3_object_tests.specs.RisingLaw.{has_below}

-- the ones that have lists are among the numbers of the lists
pub listed_below : (lists : List (Vec ℕ)) (n : ℕ) → IsSome (listed_at lists n) → Contains (below (length lists)) n
listed_below lists n live = by (cases_lt n (length lists))
  where
    by : (n < length lists) ⊎ (length lists ≤ n) → Contains (below (length lists)) n
    by (inl less) = has_below (length lists) n less
    by (inr past) = absurd (false≢true (rw (slice_get_past lists n past) at live))
