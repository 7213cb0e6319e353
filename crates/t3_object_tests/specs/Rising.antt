-- Objects for tests, whose superclasses have smaller numbers.
use Rattle.std.specs.Prelude.{ℕ, zero, suc, nat_lt, if◌then◌else◌, Option, Some, None, List, [], ◌∷◌, slice_get}
use Rattle.std.specs.List.{list_all}
use Rattle.std.specs.Global.{Vec}

-- the list, if all of it is below the number
abbrev pub rising : ℕ → Option (Vec ℕ) → Option (List ℕ)
rising n None = None
rising n (Some list) = if list_all (λ m. nat_lt m n) list.items then Some list.items else None

-- the superclasses of an object, which is live where they all have smaller numbers
abbrev pub rising_at : List (Vec ℕ) → ℕ → Option (List ℕ)
rising_at lists n = rising n (slice_get lists n)

-- all numbers below one
abbrev pub below : ℕ → List ℕ
below zero = []
below (suc n) = n ∷ below n
