-- That the live ones among such objects have numbers of their lists, for the trait's law.
use Rattle.std.proofs.Common.{ℕ, zero, suc, ◌<◌, ◌≤◌, ◌⊎◌, inl, inr, ⊎_elim, List, [], ◌∷◌, length, arith}
use Rattle.std.specs.Prelude.{IsSome, Contains}
use Rattle.std.specs.Global.{Vec}
use Rattle.std.proofs.lemmas.List.Elements.{Contains-append_right}
use Rattle.std.proofs.lemmas.Option.{slice_get_past}
use Rattle.std.proofs.lemmas.Bool.{cases_eq, cases_lt, false≢true}
use Rattle.t3_object_tests.specs.Rising.{rising_at, below}

pub has_below : (k n : ℕ) → n < k → Contains (below k) n
has_below zero n less = absurd (omega arith)
has_below (suc k) n less =
    ⊎_elim
    (λ same. (0, omega arith, same))
    (λ differ. Contains-append_right (k ∷ []) (below k) n (has_below k n (omega (arith, differ))))
    (cases_eq k n)

live_below : (lists : List (Vec ℕ)) (n : ℕ) → (n < length lists) ⊎ (length lists ≤ n) → IsSome (rising_at lists n)
    → Contains (below (length lists)) n
live_below lists n (inl less) live = has_below (length lists) n less
live_below lists n (inr past) live = absurd (false≢true (rw (slice_get_past lists n past) at live))

-- the live ones are among the numbers of the lists
pub rising_below : (lists : List (Vec ℕ)) (n : ℕ) → IsSome (rising_at lists n) → Contains (below (length lists)) n
rising_below lists n live = live_below lists n (cases_lt n (length lists)) live
